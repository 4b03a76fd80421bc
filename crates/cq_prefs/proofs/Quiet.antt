-- No input passes its partner in any stable matching, whatever the order of the proposals.
--
-- Say that a free input asked the partner of another input, and that the output liked the other less. The two who meet
-- are offered to each other and are no pair of the matching, and the output prefers the one who asks to its partner. So
-- stability gives the one who asks a partner at a lower place of its order, which it has asked before. That output
-- holds it or one that it likes better, and it holds none better than its partner, since nobody was passed until now.
-- So it holds the one who asks, who was not free. Where nobody is free, each input is held by the output that it asked
-- last, or has asked its whole order. Each output that it has asked holds it or a better one, and it likes the others
-- less than the one that holds it: so the matching is stable. In another stable matching it has no better partner, or
-- it would have passed that one. And the places tell how many proposals there are. Each event moves one input on by one
-- place, so the events are the sum of the places. No order is longer than there are ports. Where nobody is free each
-- input stands behind its partner, or at the end of its order, and that is what it spent.
use Rattle.cq_prefs.proofs.Terms.{ℕ, ◌≡◌, ◌≢◌, ◌⊎◌, ◌+◌, ◌≤◌, List, length, Option, Some, None, arith, rules, cases_lt, Orders, AreOffers, outputs_of, place_of, IsOffered, Partners, partner_of, depth, IsMatching, IsStable, IsInputBest, HasBetterOutput, HasBetterInput, State, position_held, next_place, IsQuiescent, IsSound, matching_of, state_after, AreEvents, ◌<◌, [], ◌∷◌, cases_eq, position_of, start, IsFree, propose, common_steps, ◌*◌, range_with_len, sum, map, sum_by-set, sum_by-le, get_or_default, ext_get_or, length-map-range_with_len, get_or-map-range_with_len, ports, spent, proposals}
use Rattle.std.proofs.lemmas.List.Folds.{sum_by-replicate}
use Rattle.cq_prefs.proofs.Places.{position_of-at, place_in-le-length, output_in_range, inputs_at_most, input_in_range, outputs_at_most}
use Rattle.cq_prefs.proofs.Steps.{sound-after, step, held-start}
use Rattle.cq_prefs.proofs.Holding.{matching-of, partner-holds, partner-from}

-- no output holds an input that it prefers to its partner
abbrev pub NonePassed : Orders → State → Partners → Type 0
NonePassed o s m = (i j : ℕ) → partner_of m i ≡ Some j → position_of o j i ≤ position_held s j

module _ (o : Orders) (v : AreOffers o) (s : State) (w : IsSound o s) (m : Partners) (stable : IsStable o m)
    (none : NonePassed o s m) (i : ℕ) (f : IsFree o s i) where
  -- a free input is not matched below the place where it proposes: the partner would hold it
  not_below : (p : Option ℕ) → partner_of m i ≡ p → depth (outputs_of o i) p < next_place s i → ⊥
  not_below p e l =
      grind (arith, common_steps, w.asked_before i, none i, f.unheld, v.shown i, stable.matching.offered i)

  -- so it asks no partner of an input that the partner likes less
  none_passed-step : NonePassed o (propose o s i) m
  none_passed-step k j mk =
      let st = step o v s w i f in
      search (arith, rules, not_below, stable.settled, stable.matching.once, cases_eq, cases_lt)

pub none_passed-after : (o : Orders) → AreOffers o → (events : List ℕ) → AreEvents o events → (m : Partners) →
    IsStable o m → NonePassed o (state_after o events) m
none_passed-after o v [] es m stable =
    search (arith, rules, held-start, output_in_range, inputs_at_most, v.shown, stable.matching.offered)
none_passed-after o v (i ∷ events) es m stable = none_passed-step o v (state_after o events)
    (sound-after o v events es.0) m stable (none_passed-after o v events es.0 m stable) i es.1

-- the same by places: an input that has asked its partner is held there, so it asks no further
pub none_goes_past : (o : Orders) → AreOffers o → (events : List ℕ) → AreEvents o events → (m : Partners) →
    IsStable o m → (i j : ℕ) → partner_of m i ≡ Some j → next_place (state_after o events) i ≤ place_of o i j + 1
none_goes_past o v events es m stable i j e =
    search (arith, rules, sound-after, none_passed-after, v.shown, stable.matching.offered, cases_lt)

-- ## Nobody is free

module _ (o : Orders) (v : AreOffers o) (s : State) (w : IsSound o s) (q : IsQuiescent o s) where
  -- an input stands behind the output that holds it, or at the end of its order: there it has spent
  kept : (i : ℕ) (p : Option ℕ) → partner_of (matching_of o s) i ≡ p → next_place s i ≡ spent (outputs_of o i) p
  kept i p e = search (arith, rules, w.within, partner-from, q, cases_lt, w.last, partner-holds)

  -- an output that is offered and is not the partner was not asked, and the partner is the better one; or it was
  -- asked, and holds a better input
  settled : (i j : ℕ) → IsOffered o i j → partner_of (matching_of o s) i ≢ Some j →
      HasBetterOutput o (matching_of o s) i j ⊎ HasBetterInput o (matching_of o s) i j
  settled i j offered apart =
      let at = position_of-at o v j (position_held s j) in
      let none = kept i None in
      let some = λ (k : ℕ). kept i (Some k) in
      search (arith, rules, w.asked_before, v.shown, partner-from, at, none, some, cases_lt)

  -- in a matching in which nobody was passed no input has a better partner
  no_better : (n : Partners) → IsMatching o n → NonePassed o s n → (i : ℕ) (p r : Option ℕ) →
      partner_of (matching_of o s) i ≡ p → partner_of n i ≡ r → depth (outputs_of o i) p ≤ depth (outputs_of o i) r
  no_better n matching none i p r e f =
      search (arith, rules, matching.offered, v.shown, place_in-le-length, partner-from, cases_lt, kept i p)

pub input_best-quiet : (o : Orders) → AreOffers o → (events : List ℕ) → AreEvents o events →
    IsQuiescent o (state_after o events) → IsInputBest o (matching_of o (state_after o events))
input_best-quiet o v events es q =
    let w = sound-after o v events es in
    search (arith, rules, matching-of o v, settled o v _ w q, no_better o v _ w q, none_passed-after)

-- ## How many proposals there are

-- each event moves one input on by one place
pub sum-places : (o : Orders) → AreOffers o → (events : List ℕ) → AreEvents o events →
    sum (state_after o events).places ≡ length events
unfolding propose start
sum-places o v [] es = grind (arith, common_steps, sum_by-replicate)
sum-places o v (i ∷ events) es =
    let w = sound-after o v events es.0 in
    search (arith, rules, sum_by-set, sum-places o v events es.0, input_in_range, step o v _ w i es.1)

pub events_at_most : (o : Orders) → AreOffers o → (events : List ℕ) → AreEvents o events →
    length events ≤ ports o * ports o
events_at_most o v events es =
    let w = sound-after o v events es in
    let b = sum_by-le (λ (x : ℕ). x) (ports o) (state_after o events).places
    (search (arith, rules, get_or_default, w.within, outputs_at_most)) in
    grind (arith, common_steps, sum-places o v events es)

places-quiet : (o : Orders) → AreOffers o → (s : State) → IsSound o s → IsQuiescent o s →
    s.places ≡ map (λ i. spent (outputs_of o i) (partner_of (matching_of o s) i)) (range_with_len 0 (ports o))
places-quiet o v s w q =
    let f : ℕ → ℕ = λ i. spent (outputs_of o i) (partner_of (matching_of o s) i) in
    search (arith, rules, ext_get_or 0 s.places, length-map-range_with_len f, kept o v s w q, get_or-map-range_with_len)

pub events-quiet : (o : Orders) → AreOffers o → (events : List ℕ) → AreEvents o events →
    IsQuiescent o (state_after o events) → length events ≡ proposals o (matching_of o (state_after o events))
events-quiet o v events es q = let s = state_after o events in let w = sound-after o v events es in
    cc (sum-places o v events es, places-quiet o v s w q)

pub ruleset quiet_steps = (none_goes_past, none_passed-after, input_best-quiet, events-quiet)
