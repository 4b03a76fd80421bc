-- Where the least free input proposes, each turn is an event or finds nobody free. There are no more events than the
-- number of ports squared, so after as many turns nobody is free, and those who are held form the matching that is best
-- for the inputs.
use Rattle.cq_prefs.proofs.Terms.{common_steps, rules, ℕ, zero, suc, ◌≡◌, ◌⊎◌, inl, ◌*◌, Bool, true, List, [], ◌∷◌, length, Option, Some, None, refl, arith, find, range_with_len, cond_both, true≢false, Orders, AreOffers, ports, IsInputBest, State, IsFree, IsQuiescent, is_free, next_output, state_after, AreEvents, Has, has_number}
use Rattle.cq_prefs.specs.LeastFirst.{least_free, propose_if, state_at, best}
use Rattle.cq_prefs.proofs.Holding.{found_passes, free_if, free_only_if}
use Rattle.cq_prefs.proofs.Places.{input_in_range}
use Rattle.cq_prefs.proofs.Quiet.{input_best-quiet, events_at_most}
use Rattle.cq_prefs.proofs.Steps.{sound-after, next_output-offered}

-- where nothing is found, nothing passes the test
found_none : (p : ℕ → Bool) (xs : List ℕ) (y : ℕ) → find p xs ≡ None → Has xs y → p y ≡ true → ⊥
found_none p [] y e m h = absurd m
found_none p (x ∷ xs) y e m h = grind (arith, common_steps, cond_both, true≢false, found_none p xs y)

quiet_if_none : (o : Orders) → AreOffers o → (s : State) → least_free o s ≡ None → IsQuiescent o s
unfolding least_free
quiet_if_none o v s e i f =
    let r = input_in_range o i (next_output o s i) (next_output-offered o v s i f.left) in
    search (arith, rules, found_none (is_free o s) (range_with_len 0 (ports o)) i, has_number, free_only_if)

-- what n turns come to
record IsTurns (o : Orders) (n : ℕ) (s : State) : Type 0 where
  events : List ℕ
  are_events : AreEvents o events
  is : s ≡ state_after o events
  ended : (length events ≡ n) ⊎ IsQuiescent o s

one_turn : (o : Orders) → AreOffers o → (n : ℕ) (s : State) → IsTurns o n s → (p : Option ℕ) → least_free o s ≡ p →
    IsTurns o (suc n) (propose_if o s p)
unfolding least_free
one_turn o v n s t None e = grind (arith, common_steps, quiet_if_none)
one_turn o v n s t (Some i) e =
    let found : least_free o (state_after o t.events) ≡ Some i = rw t.is at e in
    let free : IsFree o (state_after o t.events) i = search (rules, free_if, sound-after, found_passes, t.are_events) in
    record { events = i ∷ t.events; are_events = (t.are_events, free); is = cc; ended = search (arith, rules) }

turns : (o : Orders) → AreOffers o → (n : ℕ) → IsTurns o n (state_at o n)
turns o v zero = record { events = []; are_events = tt; is = refl; ended = inl refl }
turns o v (suc n) = search (rules, one_turn, turns o v n)

-- after so many turns nobody is free: there would be one event too many
pub input_best-best : (o : Orders) → AreOffers o → IsInputBest o (best o)
unfolding best
input_best-best o v =
    let t = turns o v (ports o * ports o) in
    let most = λ (i : ℕ). events_at_most o v (i ∷ t.events) in
    search (arith, rules, input_best-quiet o v t.events t.are_events (search (arith, rules, most, t.ended)))
