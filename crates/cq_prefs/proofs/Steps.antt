-- What one proposal changes, and what every state keeps that proposals reach. A proposal changes the position that the
-- asked output holds, which only falls, and moves the input on by one place. So an output that was asked once holds the
-- input or a better one from then on, and whom it holds has it as the last output that was asked: an input that is held
-- is not free and asks no further.
use Rattle.cq_prefs.proofs.Terms.{common_steps, rules, ℕ, ◌≡◌, ◌≢◌, ◌⊎◌, ◌+◌, ◌<◌, ◌≤◌, min, List, [], ◌∷◌, length, arith, cases_lt, cases_eq, get_or-set_same, get_or-set_other, get_or_past, length-set, length-replicate, get_or-replicate, Orders, AreOffers, ports, outputs_of, inputs_of, place_of, position_of, IsOffered, State, position_held, next_place, start, Holds, IsFree, IsSound, next_output, propose, state_after, AreEvents}
use Rattle.cq_prefs.proofs.Places.{same_at_place, input_in_range, output_in_range, place_of-at, inputs_at_most}

-- the output that a free input asks is offered
pub next_output-offered : (o : Orders) → AreOffers o → (s : State) (i : ℕ) →
    next_place s i < length (outputs_of o i) → IsOffered o i (next_output o s i)
next_output-offered o v s i h = let e = place_of-at o v i (next_place s i) h in omega arith

-- what a proposal of a free input does, in a sound state
pub record IsStep (o : Orders) (s : State) (i : ℕ) (t : State) : Type 0 where
  pub to : place_of o i (next_output o s i) ≡ next_place s i
  pub offered : IsOffered o i (next_output o s i)
  pub held_asked : position_held t (next_output o s i)
      ≡ min (position_held s (next_output o s i)) (position_of o (next_output o s i) i)
  pub held_other : (j : ℕ) → j ≢ next_output o s i → position_held t j ≡ position_held s j
  pub moved_on : next_place t i ≡ next_place s i + 1
  pub others_stay : (k : ℕ) → k ≢ i → next_place t k ≡ next_place s k

module _ (o : Orders) (v : AreOffers o) (s : State) (w : IsSound o s) (i : ℕ) (f : IsFree o s i) where
  pub step : IsStep o s i (propose o s i)
  unfolding propose
  step =
      let offered = next_output-offered o v s i f.left in
      search (arith, rules, output_in_range, input_in_range, place_of-at, get_or-set_same, get_or-set_other)

  module _ (t : State) (st : IsStep o s i t) where
    -- a position that is held only falls, so an output that was asked holds the input or a better one
    asked_before-step : (k j : ℕ) → place_of o k j < next_place t k → position_held t j ≤ position_of o j k
    asked_before-step k j h =
        search (arith, rules, st.others_stay, w.asked_before, same_at_place, cases_eq, cases_lt, st.held_other)

    -- what the asked output holds after the proposal
    last-step : (k j : ℕ) → Holds o t j k → next_place t k ≡ place_of o k j + 1
    last-step k j h =
        search (arith, rules, same_at_place, cases_lt, st.held_other, st.others_stay, f.unheld, w.last, cases_eq)

    held_in-step : (j : ℕ) → j < ports o → (position_held t j ≡ ports o) ⊎ (position_held t j < length (inputs_of o j))
    held_in-step j r = grind (arith, common_steps, st.held_other, w.held_in, v.shown, cases_eq)

  pub sound-step : IsSound o (propose o s i)
  unfolding propose
  sound-step =
      let st = step in
      let within : (k : ℕ) → next_place (propose o s i) k ≤ length (outputs_of o k) =
      grind (arith, common_steps, st.others_stay, w.within, cases_eq) in
      search (rules, length-set, asked_before-step, last-step, held_in-step)

-- nobody has proposed
pub next_place-start : (o : Orders) (i : ℕ) → next_place (start o) i ≡ 0
unfolding start
next_place-start o i = search (arith, rules, get_or-replicate, get_or_past, length-replicate, cases_lt)

pub held-start : (o : Orders) (j : ℕ) → j < ports o → position_held (start o) j ≡ ports o
unfolding start
held-start o j h = get_or-replicate (ports o) j (ports o) 0 h

pub sound-start : (o : Orders) → AreOffers o → IsSound o (start o)
unfolding start
sound-start o v =
    search (arith, rules, length-replicate, next_place-start, held-start, output_in_range, v.shown_back, inputs_at_most)

pub sound-after : (o : Orders) → AreOffers o → (events : List ℕ) → AreEvents o events → IsSound o (state_after o events)
sound-after o v [] es = sound-start o v
sound-after o v (i ∷ events) es = sound-step o v (state_after o events) (sound-after o v events es.0) i es.1
