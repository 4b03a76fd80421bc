-- The words of this crate's proofs that stand elsewhere, each passed on from its place.
pub use Rattle.cq_base.proofs.Library.{All, AllByRecursion, Any-from_list_any, Bool, IsPartitionPoint, IsPartitionPoint-from_clause, IsPartitionedBy, List, None, Option, Some, [], and_from, and_parts, ap, apart_from_distinct, append-nil, append_assoc, arith, cases_Bool, cases_eq, cases_lt, common_steps, cond, cond-false, cond-true, cond_both, copy_within, drop, drop-drop, drop-replicate, drop-set-lt, drop-take, drop_at, drop_more, eq-eqb, eqb, eqb-false, eqb-true, ext_get_or, false, filter, filter-append, find, find_at, get_or, get_or-map-range_with_len, get_or-replicate, get_or-set_other, get_or-set_same, get_or_default, get_or_past, inl, insert, is_none, is_some, le-leb, le-ltb, leb, leb-true, length, length-append, length-drop, length-le_from_distinct_below, length-map, length-map-range_with_len, length-paste, length-range_with_len, length-replicate, length-set, length-take-le, list_all, lt-leb, lt-ltb, ltb, ltb-false, ltb-true, map, map-id, map-range_with_len_more, map_more, min, ne_eqb, nil_from_length, not, not-true, passes_at_first, position, position_or_len, position_or_len_is, prefix_len-le-length, range_with_len, refl, remove, replicate, rules, same_Some, set, set_at, slice_get, slice_get-get_or, slice_get_within, suc, sum, sum_by-le, sum_by-set, sym, take, take-replicate, take-set-lt, take-take, take_at, take_more, take_more_set, tests, true, true≢false, zero, ℕ, ⊎_elim, ◌*◌, ◌++◌, ◌+◌, ◌-◌, ◌<◌, ◌↔◌, ◌∙◌, ◌∷◌, ◌≡◌, ◌≢◌, ◌≤◌, ◌⊎◌}
unfoldable pub use Rattle.cq_base.proofs.Library.{IsDistinct}
pub use Rattle.cq_base.proofs.Keys.{key_laws}
pub use Rattle.cq_base.proofs.Lists.{first_here, first_later, taken_none}
pub use Rattle.cq_base.specs.Cells.{IsBefore, MoreUrgentAhead, first_for, is_for, place_for, place_of_arrival, place_of_later, with_arrival, without_first}
pub use Rattle.cq_base.specs.{declared.cell.Queued.Queued, declared.key.Key.Key}
pub use Rattle.cq_base.specs.Items.{EachPair, Has}
pub use Rattle.cq_base.specs.Limits.{most_ports}
pub use Rattle.cq_list.specs.InputList.{AreWaiting, Waiting, cells_of}
pub use Rattle.cq_prefs.specs.FirstCells.{AreOrdersOf, FirstKeysDiffer, HasCellFor, IsInputOrder, IsOutputOrder, first_key, input_order, key_at, key_before, list_of, orders_of, output_order, places_by_key, put_by, sorted_by, without_repeats}
pub use Rattle.cq_prefs.specs.Orders.{AreOffers, IsListed, IsOffered, Orders, has_offer, inputs_of, inputs_with_offers, no_offers, outputs_of, place_of, ports, position_of}
unfoldable pub use Rattle.cq_prefs.specs.Orders.{place_in}
pub use Rattle.cq_prefs.specs.Padded.{IsPadded, length_shown}
pub use Rattle.cq_prefs.specs.Pairing.{ArePairs, HasBetterInput, HasBetterOutput, IsFreeOutput, IsInputBest, IsMatching, IsStable, Partners, depth, partner_of, proposals, spent, with_pair}
pub use Rattle.cq_prefs.specs.Proposals.{AreEvents, Holds, IsFree, IsQuiescent, IsSound, State, holder, holds, next_output, next_place, position_held, state_after}
unfoldable pub use Rattle.cq_prefs.specs.Proposals.{is_free, keeper, matching_of, propose, start}
pub use Rattle.cq_prefs.specs.Renewal.{AreSameWithout, is_pair, is_partner, without}
pub use Rattle.cq_base.proofs.Each.{all_weaker, few_kept, filter_all, one_there}
pub use Rattle.cq_base.proofs.Having.{all_from_has, all_of_has, has_at, has_kept, kept_has}
pub use Rattle.cq_base.proofs.Pooled.{all_pairs, has_number, pairs_kept, pairs_kept_with, same_pairs}
