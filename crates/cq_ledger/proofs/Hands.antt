-- What one proposal does to the hand that made it, and to the free inputs: who is free after it is in the new hand, or
-- was free before.
use Rattle.cq_ledger.proofs.Terms.{common_steps, rules, ℕ, ◌≡◌, ◌≢◌, ◌⊎◌, ◌+◌, ◌<◌, ◌≤◌, length, get_or, Option, Some, None, refl, arith, ⊎_elim, cases_lt, cases_eq, ltb-true, lt-ltb, le-ltb, eq-eqb, ne_eqb, Orders, AreOffers, ports, outputs_of, inputs_of, place_of, position_of, IsStep, step, State, position_held, next_place, Holds, IsFree, next_output, propose, holder, IsSound, Outcome, hand_at, hand_after, output_at, answer_of, get_or-place_in, same_at_place, output_in_range, holder-holds, inputs_at_most, outputs_at_most, place_in-le-length}

pub hand_at-shows : (o : Orders) (k p i q : ℕ) → hand_at o k p ≡ Some (i, q) →
    (k ≡ i) × (p ≡ q) × (p < length (outputs_of o k))
unfolding hand_at
hand_at-shows o k p i q h = grind (arith, common_steps, ltb-true)

pub hand_at-left : (o : Orders) (k p : ℕ) → p < length (outputs_of o k) → hand_at o k p ≡ Some (k, p)
unfolding hand_at
hand_at-left o k p h = rw (lt-ltb p (length (outputs_of o k)) h) refl

-- the hand after a proposal, by what the word was
abbrev pub hand_found : Orders → ℕ → ℕ → ℕ → Option (ℕ × ℕ)
hand_found o i p found = hand_after o i p (answer_of o i p found)

pub hand-held : (o : Orders) (i p found : ℕ) → found ≡ ports o → hand_found o i p found ≡ None
unfolding answer_of hand_after
hand-held o i p found e = rw (eq-eqb _ _ e) refl

pub hand-displaced : (o : Orders) (i p found : ℕ) → found ≢ ports o → position_of o (output_at o i p) i < found →
    hand_found o i p found
    ≡ hand_at o (get_or (inputs_of o (output_at o i p)) found 0) (place_of o
    (get_or (inputs_of o (output_at o i p)) found 0) (output_at o i p) + 1)
unfolding answer_of hand_after
hand-displaced o i p found n h = rw (ne_eqb _ _ n, lt-ltb _ _ h) refl

pub hand-rejected : (o : Orders) (i p found : ℕ) → found ≢ ports o → found ≤ position_of o (output_at o i p) i →
    hand_found o i p found ≡ hand_at o i (p + 1)
unfolding answer_of hand_after
hand-rejected o i p found n h = rw (ne_eqb _ _ n, le-ltb _ _ h) refl

ruleset hands = (hand_at-shows, hand_at-left, hand-held, hand-displaced, hand-rejected)

module _ (o : Orders) (v : AreOffers o) (s : State) (w : IsSound o s) (i : ℕ) (f : IsFree o s i) where
  abbrev j : ℕ
  j = next_output o s i

  abbrev t : State
  t = propose o s i

  st : IsStep o s i t
  st = step o v s w i f

  -- an output that holds no greater position holds somebody
  taken_if : position_held s j ≤ position_of o j i → position_held s j ≢ ports o
  taken_if l e = let a = v.shown i j st.offered in let b = inputs_at_most o v j in absurd (omega arith)

  -- nobody holds an input now, where none of the others did before and the output that was asked does not
  unheld_now : (k : ℕ) → ((q : ℕ) → q ≢ j → Holds o s q k → ⊥) → (Holds o t j k → ⊥) → (q : ℕ) → Holds o t q k → ⊥
  unheld_now k others asked q h = grind (arith, common_steps, cases_eq q j, others q, st.held_other q)

  -- another input that was free still is, at its place
  pub still_free : (k : ℕ) → k ≢ i → IsFree o s k → IsFree o t k
  still_free k n g = search (arith, rules, st, unheld_now, g.unheld, same_at_place)

  -- the one that is displaced is free now, at the place after this output
  pub displaced_free : (k : ℕ) → Holds o s j k → position_of o j i < position_held s j →
      place_of o k j + 1 < length (outputs_of o k) → (IsFree o t k) × (next_place t k ≡ place_of o k j + 1) × (k ≢ i)
  displaced_free k h l left = search (arith, rules, st.held_asked, st.others_stay, w.last, unheld_now, same_at_place)

  -- the one that is refused is free still
  pub refused_free : position_held s j ≤ position_of o j i → next_place s i + 1 < length (outputs_of o i) →
      (IsFree o t i) × (next_place t i ≡ next_place s i + 1)
  refused_free l left = search (arith, rules, unheld_now, f.unheld, st.held_asked, st.moved_on)

  -- what the new hand shows
  pub record IsHand (k q : ℕ) : Type 0 where
    pub free : IsFree o t k
    pub place_is : next_place t k ≡ q
    pub who : (k ≡ i) ⊎ Holds o s j k

  pub hand-shows : (k q : ℕ) → hand_found o i (next_place s i) (position_held s j) ≡ Some (k, q) → IsHand k q
  hand-shows k q h =
      let hold = holder-holds o v s w j (output_in_range o v i j st.offered) in
      search (arith, rules, hands, hold, taken_if, refused_free, cases_eq, cases_lt, displaced_free (holder o s j))

  -- who is free now is in the new hand, or was free before
  pub free-before : (k : ℕ) → IsFree o t k →
      (hand_found o i (next_place s i) (position_held s j) ≡ Some (k, next_place t k)) ⊎ ((k ≢ i) × IsFree o s k)
  free-before k g =
      let moved = st.moved_on in let asked = st.held_asked in let shown = v.shown i j st.offered in
      ⊎_elim (λ e. search (arith, rules, hands, g.unheld, taken_if, cases_lt)) (λ n.
      let stays = st.others_stay k n in
      let unless : (Holds o s j k → ⊥) → (k ≢ i) × IsFree o s k =
      search (arith, rules, st.held_other, g.unheld, cases_eq) in
      search (arith, rules, inputs_at_most, get_or-place_in, hand-displaced, hand_at-left, cases_lt, cases_eq))
      (cases_eq k i)

-- a hand stands within its input's order
pub hand_at-placed : (o : Orders) (i p : ℕ) (x : ℕ × ℕ) → hand_at o i p ≡ Some x → x.1 < length (outputs_of o x.0)
hand_at-placed o i p x h = grind (arith, common_steps, hand_at-shows o i p x.0 x.1 h)

pub hand_after-placed : (o : Orders) (i p : ℕ) (answer : Outcome) (x : ℕ × ℕ) → hand_after o i p answer ≡ Some x →
    x.1 < length (outputs_of o x.0)
unfolding hand_after
hand_after-placed o i p answer x h = grind (arith, hand_at-placed)

pub ruleset hand_steps = (outputs_at_most, place_in-le-length)
