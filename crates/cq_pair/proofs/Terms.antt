-- The words of this crate's proofs that stand elsewhere, each passed on from its place.
pub use Rattle.cq_base.proofs.Library.{All, AllPairs, Bool, IfSome, IsDistinct, IsDistinct-from_apart, IsNonDecreasingBy, IsPartitionPoint-from_clause, IsPartitionedBy-leb, IsSome, List, None, Option, Some, [], and-true, and_left, and_right, ap, arith, cases_eq, cases_lt, common_steps, cond_both, eq-eqb, eqb, eqb-true, false, filter, filter_agree, filter_passes, get_or, get_or-range_with_len, get_or-set_other, get_or-set_same, get_or-take, is_none, le-ltb, leb, length, length-range_with_len, length-replicate, length-set, length-take-le, lt-ltb, ltb, ltb-true, mul-le-mul, ne_eqb, nil_from_length, range_with_len, refl, replicate, rules, same_Some, set, set-get_or, slice_get, subst, suc, sym, take, take-replicate, take_all, take_more_set, tests, true, ℕ, ◌*◌, ◌+◌, ◌-◌, ◌<◌, ◌↔◌, ◌∙◌, ◌∷◌, ◌≡◌, ◌≢◌, ◌≤◌}
pub use Rattle.cq_base.specs.Items.{Has}
pub use Rattle.cq_base.specs.Limits.{most_ports}
pub use Rattle.cq_prefs.proofs.ByKey.{length-put, put_is, first_at_point, le_not_lt}
pub use Rattle.cq_prefs.proofs.Quiet.{events-quiet, events_at_most}
pub use Rattle.cq_prefs.proofs.Holding.{free_if, free_only_if, held_once, holder-holds, matching-of, matching_of-is, partner-free, partner-from, partner-holds, partner-is}
pub use Rattle.cq_prefs.proofs.Members.{Apart}
pub use Rattle.cq_prefs.proofs.Pairs.{nobody}
pub use Rattle.cq_prefs.proofs.Places.{get_or-place_in, input_in_range, inputs_at_most, output_in_range, outputs_at_most, place_in-get_or, same_at_place}
pub use Rattle.cq_prefs.proofs.OneOrder.{IsInOrder}
pub use Rattle.cq_prefs.proofs.Changes.{left_by, not_there, put_back, without_here, without_there}
pub use Rattle.cq_prefs.proofs.Steps.{IsStep, held-start, next_output-offered, next_place-start, sound-after, sound-start, sound-step, step}
pub use Rattle.cq_prefs.specs.Orders.{AreOffers, Orders, inputs_of, inputs_with_offers, outputs_of, place_in, ports, position_of}
pub use Rattle.cq_prefs.specs.Pairing.{IsFreeInput, IsInputBest, Partners, partner_of, proposals}
pub use Rattle.cq_prefs.specs.Proposals.{Holds, IsFree, IsQuiescent, IsSound, State, holder, matching_of, next_output, next_place, outcome_of, position_held}
unfoldable pub use Rattle.cq_prefs.specs.Proposals.{answer_of, free_inputs, is_free, propose, start}
pub use Rattle.cq_prefs.specs.Renewal.{without}
pub use Rattle.cq_pair.specs.FreeInputs.{with_input}
pub use Rattle.cq_pair.specs.Progress.{CanTake, IsAsk, IsReached, MovesOn, Parts, Progress, ShowsWaiting, Takes, is_waiting, waiting_inputs}
pub use Rattle.cq_base.proofs.Each.{few_kept}
pub use Rattle.cq_base.proofs.Pooled.{each_pair, has_number}
pub use Rattle.cq_base.proofs.Having.{has_kept, has_there}
