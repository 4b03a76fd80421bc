-- The words of this crate's proofs that stand elsewhere, each passed on from its place.
pub use Rattle.cq_base.proofs.Library.{List, None, Option, Some, [], add-one, ap, arith, bit_at-lt, bit_at-pow_other, bit_at-pow_same, bit_at-zero, bit_at_or, bit_or, cases_eq, cases_lt, common_steps, cond_both, drop, eq-eqb, eqb-true, ext_get_or, get_elem?, get_or, get_or-le-sum_by, get_or-map-range_with_len, get_or-replicate, get_or-set_other, get_or-set_same, get_or_past, inl, inr, le-ltb, length, length-drop, length-map-range_with_len, length-replicate, length-set, lt-ltb, ltb-true, map, min, ne_eqb, none, range_with_len, refl, replicate, rules, same_from_bits, set, set-get_or, shr_and_one, slots_items, some, some-injective, some-ne-none, suc, sum, sum_by, sum_by-cons, sum_by-set, sum_by_push, sym, take-replicate, true≢false, zero, ℕ, ⊎_elim, ◌*◌, ◌++◌, ◌+◌, ◌<◌, ◌↔◌, ◌^◌, ◌∙◌, ◌∷◌, ◌≡◌, ◌≢◌, ◌≤◌, ◌⊎◌}
pub use Rattle.cq_base.specs.Limits.{most_ports}
pub use Rattle.atomic_table.proofs.Lists.{at_longer, at_set, at_snoc, set_again, set_else, set_here}
pub use Rattle.cq_prefs.proofs.Quiet.{events-quiet, events_at_most, sum-places}
pub use Rattle.cq_prefs.proofs.Holding.{held_once, holder-holds, keeper-from, keeper-holds, matching_of-is, none_unless}
pub use Rattle.cq_prefs.proofs.Places.{get_or-place_in, input_in_range, inputs_at_most, output_in_range, outputs_at_most, place_in-le-length, same_at_place}
pub use Rattle.cq_prefs.proofs.Steps.{IsStep, held-start, next_output-offered, next_place-start, sound-after, step}
pub use Rattle.cq_prefs.specs.Orders.{AreOffers, IsOffered, Orders, inputs_of, outputs_of, place_of, ports, position_of}
pub use Rattle.cq_prefs.specs.Pairing.{IsInputBest, Partners, partner_of, proposals}
pub use Rattle.cq_prefs.specs.Proposals.{Holds, IsFree, IsQuiescent, IsSound, State, holder, matching_of, next_output, next_place, output_at, position_held, propose, state_after}
unfoldable pub use Rattle.cq_prefs.specs.Proposals.{answer_of, keeper}
pub use Rattle.cq_prefs.specs.declared.outcome.Outcome.{Outcome}
pub use Rattle.cq_ledger.specs.Plays.{IsClaim, IsProposal, Ruled, Seated, claim, look, proposal}
pub use Rattle.cq_ledger.specs.{Reading.Shows, declared.view.View.View}
pub use Rattle.cq_ledger.specs.Rule.{AreClaims, AreHands, IsLedger, IsViewOf}
pub use Rattle.cq_ledger.specs.Shown.{first_place, output_of, place_in_hand, place_in_hands}
unfoldable pub use Rattle.cq_ledger.specs.Shown.{core_state, next_shown}
pub use Rattle.cq_ledger.specs.Steps.{blank, claim_refused, claim_taken, joined, proposed, spent, words_claimed, words_proposed}
unfoldable pub use Rattle.cq_ledger.specs.Steps.{hand_after, hand_at}
pub use Rattle.cq_ledger.specs.Views.{HasClaimed, HasSeen, IsClaimed, IsClaimedByOne, IsInAHand, Sits, Waits, claim_word}
unfoldable pub use Rattle.cq_ledger.specs.Views.{bit}
