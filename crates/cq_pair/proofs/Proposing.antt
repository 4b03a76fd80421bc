-- What one proposal does to the pairs of those who are held. One that is refused leaves them. Otherwise the asked
-- output takes the input, and whom it held is parted. All others stay: no other output holds the input, since it was
-- free, and the input that is parted was held nowhere else. So are the steps put together: the input goes on to its
-- next place, whom the output held is parted, and the output takes the input. What is then shown is the state after the
-- event, with its pairs, its free inputs and its count.
use Rattle.cq_pair.proofs.Terms.{common_steps, rules, ℕ, ◌≡◌, ◌≢◌, ◌+◌, ◌*◌, ◌<◌, ◌≤◌, ◌∷◌, mul-le-mul, List, length, get_or, set, Option, Some, None, refl, sym, ◌∙◌, arith, cases_lt, lt-ltb, eq-eqb, ne_eqb, get_or-set_other, length-set, Orders, ports, inputs_of, position_of, partner_of, IsFreeInput, State, position_held, Holds, IsSound, next_output, holder, propose, answer_of, outcome_of, matching_of, input_in_range, inputs_at_most, next_output-offered, events_at_most, holder-holds, matching-of, partner-free, partner-from, Progress, IsReached, IsAsk, MovesOn, Parts, CanTake, Takes, most_ports, same_Some, held_once, cases_eq, get_or-set_same, set-get_or, AreOffers, Partners, next_place, IsFree, same_at_place, output_in_range, IsStep, step, sound-step, matching_of-is, partner-holds}
use Rattle.cq_prefs.specs.declared.outcome.Outcome.{Outcome}
use Rattle.cq_prefs.specs.declared.outcome.Outcome.TheVariants.{Held, Displaced, Rejected}
use Rattle.cq_pair.proofs.Reached.{sound-reached, free_known, asked_known, reached-step}

-- a proposal that is refused changes no position that is held
pub state-refused : (o : Orders) (s : State) (i : ℕ) →
    position_held s (next_output o s i) ≤ position_of o (next_output o s i) i →
    propose o s i ≡ record { positions = s.positions; places = set s.places i (next_place s i + 1) }
unfolding propose
state-refused o s i h = grind (arith, common_steps, set-get_or)

pub state-taken : (o : Orders) (s : State) (i : ℕ) →
    position_of o (next_output o s i) i < position_held s (next_output o s i) →
    propose o s i
    ≡ record {
      positions = set s.positions (next_output o s i) (position_of o (next_output o s i) i);
      places = set s.places i (next_place s i + 1);
    }
unfolding propose
state-taken o s i h = grind (arith, common_steps)

module _ (o : Orders) (v : AreOffers o) (s : State) (w : IsSound o s) where
  -- the output held nobody
  pub unheld-empty : (j : ℕ) → position_held s j ≡ ports o → (k : ℕ) → partner_of (matching_of o s) k ≢ Some j
  unheld-empty j e k h = omega (arith, partner-holds o v s k j h, inputs_at_most o v j)

  -- the matching without the holder
  module _ (j : ℕ) (r : j < ports o) (n : position_held s j ≢ ports o) where
    others : (k q : ℕ) → partner_of (set (matching_of o s) (holder o s j) None) k ≡ Some q → Holds o s q k × (q ≢ j)
    others k q e =
        let held = holder-holds o v s w j r n in
        let gone = get_or-set_same (matching_of o s) in
        let stays = get_or-set_other (matching_of o s) in
        let only = same_at_place (inputs_of o j) k in
        search (arith, rules, input_in_range, v.shown_back, matching-of, gone, partner-holds, only, stays, cases_eq)

    pub unheld-parted : (k : ℕ) → partner_of (set (matching_of o s) (holder o s j) None) k ≢ Some j
    unheld-parted k e = (others k j e).1 refl

  module _ (i : ℕ) (f : IsFree o s i) where
    st : IsStep o s i (propose o s i)
    st = step o v s w i f

    -- the matching after a proposal that is refused
    pub matching-refused : position_held s (next_output o s i) ≤ position_of o (next_output o s i) i →
        matching_of o s ≡ matching_of o (propose o s i)
    matching-refused h =
        let same : (q : ℕ) → position_held (propose o s i) q ≡ position_held s q = λ q.
        let asked = st.held_asked in let other = st.held_other q in grind (arith, cases_eq) in
        matching_of-is o v (propose o s i) (sound-step o v s w i f) (matching_of o s) (matching-of o v s).size
        (search (rules, same, partner-holds)) (search (rules, same, partner-from))

    module _ (less : position_of o (next_output o s i) i < position_held s (next_output o s i)) where
      -- a matching without the input that the asked output held, with the one that proposed
      matching-taken : (m : Partners) → length m ≡ ports o →
          ((k q : ℕ) → partner_of m k ≡ Some q → Holds o s q k × (q ≢ next_output o s i)) →
          ((k q : ℕ) → Holds o s q k → q ≢ next_output o s i → partner_of m k ≡ Some q) →
          set m i (Some (next_output o s i)) ≡ matching_of o (propose o s i)
      matching-taken m size there back =
          let j : ℕ = next_output o s i in
          let known = input_in_range o i j st.offered in
          let shown = v.shown i j st.offered in
          matching_of-is o v (propose o s i) (sound-step o v s w i f) (set m i (Some j)) (length-set m i _ ∙ size)
          (search (arith, rules, get_or-set_other, st.held_other, st.held_asked, there, same_Some, cases_eq))
          (search (arith, rules, get_or-set_other, st.held_other, st.held_asked, same_at_place, cases_eq))

      pub matching-empty : position_held s (next_output o s i) ≡ ports o →
          set (matching_of o s) i (Some (next_output o s i)) ≡ matching_of o (propose o s i)
      matching-empty e = search (rules, matching-taken, matching-of, partner-holds, unheld-empty, partner-from)

      pub matching-displaced : position_held s (next_output o s i) ≢ ports o →
          set (set (matching_of o s) (holder o s (next_output o s i)) None) i (Some (next_output o s i))
          ≡ matching_of o (propose o s i)
      matching-displaced n =
          let r = output_in_range o v i (next_output o s i) st.offered in
          let held = holder-holds o v s w (next_output o s i) r n in
          let but = others (next_output o s i) r n in
          search (arith, rules, matching-taken, length-set, matching-of, but, held_once, get_or-set_other, partner-from)

-- ## The steps put together

-- what is shown after the proposal of input i
pub record Proposed (o : Orders) (c d : Progress) (i : ℕ) (outcome : Outcome) : Type 0 where
  pub reached : IsReached o d
  pub event : d.state ≡ propose o c.state i
  pub made : d.made ≡ c.made + 1
  pub answer : outcome ≡ outcome_of o c.state i

module _ {o : Orders} {c : Progress} {i j h : ℕ} {ahead : Option ℕ} (a : IsAsk o c i j h ahead) where
  sound : IsSound o c.state
  sound = sound-reached o a.offers c a.reached

  pub input_known : i < ports o
  input_known = free_known o a.offers c a.reached i a.free

  next_known : next_output o c.state i < ports o
  next_known = asked_known o a.offers c a.reached i a.free

  pub output_known : j < ports o
  output_known = rw a.output next_known

  ruleset known = (input_known, output_known, sound, next_output-offered)

  -- whether the output prefers the input to the one that it holds
  less : {p : ℕ} → ahead ≡ Some p →
      position_of o (next_output o c.state i) i < position_held c.state (next_output o c.state i)
  less is = let l = a.ahead.0 (rw is refl) in let e = a.held in omega arith

  at : {p : ℕ} → ahead ≡ Some p → p ≡ position_of o (next_output o c.state i) i
  at is = rw is at a.position

  -- there is one proposal more to make
  pub few_made : ports o ≤ most_ports → c.made < most_ports * most_ports
  few_made few = search (arith, rules, events_at_most o a.offers (i ∷ a.reached.events), mul-le-mul few few)

  -- ## The input went on

  module _ {d : Progress} (m : MovesOn o c d i) where
    sizes : (length d.state.places ≡ ports o) × (length d.matching ≡ ports o)
    sizes = search (arith, rules, sound, matching-of)

    -- the output keeps whom it holds
    pub rejected : ahead ≡ None → Proposed o c d i Rejected
    unfolding answer_of
    rejected none =
        search (rules, known, inputs_at_most, state-refused, reached-step, matching-refused, cases_lt, a.ahead.1)

    -- the output takes the input
    taken : {p : ℕ} → ahead ≡ Some p → {e f : Progress} → e.state ≡ d.state → Takes o e f i j p →
        f.state ≡ propose o c.state i
    taken some same t = grind (arith, common_steps, state-taken o c.state i, at some, less some)

    -- ## It held nobody

    pub can_take : h ≡ ports o → CanTake o d i j
    can_take nobody =
        search (arith, rules, known, sizes, matching-of, partner-free, unheld-empty o a.offers c.state)

    pub holding : {p : ℕ} → ahead ≡ Some p → h ≡ ports o → {e : Progress} → Takes o d e i j p →
        Proposed o c e i Held
    unfolding answer_of
    holding some nobody t = search (arith, rules, taken, less, sound, eq-eqb, matching-empty, reached-step)

    -- ## It held another input

    module _ {k count : ℕ} {order : List ℕ} (order_is : order ≡ inputs_of o j) (at : k ≡ get_or order h 0)
        (count_is : count ≡ ports o) (n : h ≢ count) where
      other_held : position_held c.state (next_output o c.state i) ≢ ports o
      other_held e = n (a.held ∙ e ∙ sym count_is)

      holds_other : Holds o c.state (next_output o c.state i) k
      holds_other = search (rules, holder-holds, sound, next_known, other_held)

      pub can_part : (k < ports o) × (length d.state.places ≡ ports o) × (length d.matching ≡ ports o)
          × (partner_of d.matching k ≢ None)
      can_part = search (arith, rules, sizes, input_in_range, a.offers.shown_back, partner-from, sound, holds_other)

      module _ {e : Progress} (s : Parts o d e k) where
        still_free : IsFreeInput e.matching i
        still_free =
            search (arith, rules, matching-of, partner-free, a.free.unheld, holds_other, get_or-set_other)

        pub can_take_then : CanTake o e i j
        can_take_then =
            search (arith, rules, known, sizes, still_free, length-set, unheld-parted, next_known, other_held)

        pub displaced : {p : ℕ} → ahead ≡ Some p → {f : Progress} → Takes o e f i j p → Proposed o c f i (Displaced k)
        unfolding answer_of
        displaced some t =
            search (arith, rules, taken, less, sound, other_held, ne_eqb, lt-ltb, matching-displaced, reached-step)

  pub held_inside : h ≢ ports o → h < length (inputs_of o j)
  held_inside n = search (arith, rules, holder-holds, sound, next_known)
