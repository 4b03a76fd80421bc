-- The inputs that wait, as places and pairs change. An input that gets a partner, or has no output left, is taken out
-- of the list, and one that is parted goes back in by its number if it has an output left. The others stay as they
-- were, and all stand in order of number. So the steps of a core keep what it shows: its fields are what was shown, and
-- the free inputs are those that wait by the places and the pairs, after a step that takes an input out, or puts it
-- back, as before it.
use Rattle.cq_pair.proofs.Terms.{common_steps, rules, ℕ, ◌≡◌, ◌≢◌, ◌<◌, ◌≤◌, Bool, true, false, is_none, eqb, List, [], ◌∷◌, length, set, get_or, replicate, Some, None, refl, ap, arith, filter, IsDistinct, IsNonDecreasingBy, range_with_len, AllPairs, IsDistinct-from_apart, get_or-range_with_len, cases_lt, and-true, cases_eq, cond_both, eq-eqb, ne_eqb, lt-ltb, le-ltb, and_left, and_right, get_or-set_same, get_or-set_other, filter_agree, length-range_with_len, Orders, AreOffers, ports, outputs_of, Partners, partner_of, State, start, is_free, matching_of, free_inputs, length-put, few_kept, next_place-start, nobody, partner-is, with_input, without, inputs_with_offers, is_waiting, waiting_inputs, ltb, put_is, Has, has_kept, has_number, ltb-true, each_pair, IsInOrder, put_back, sym, subst, Progress, ShowsWaiting}
use Rattle.std.proofs.lemmas.List.Kept.{AllPairs-from_increasing, IsStrictlyIncreasing-filter}

-- ## A test that changes at one number

-- it fails at i, and is as before elsewhere
pub left_out : (p q : ℕ → Bool) (i : ℕ) → q i ≡ false → ((k : ℕ) → k ≢ i → q k ≡ p k) → (xs : List ℕ) →
    filter q xs ≡ without i (filter p xs)
left_out p q i out same [] = refl
left_out p q i out same (x ∷ xs) =
    grind (arith, common_steps, cond_both, eq-eqb, ne_eqb, cases_eq, left_out p q i out same xs)

-- ## In order of number

-- the numbers of a range that pass a test rise
kept_rise : (p : ℕ → Bool) (n : ℕ) → AllPairs (λ x y. x < y) (filter p (range_with_len 0 n))
kept_rise p n = search
    (arith, rules, AllPairs-from_increasing, IsStrictlyIncreasing-filter, length-range_with_len, get_or-range_with_len)

-- it holds at i now, and is as before elsewhere
back_in : (p q : ℕ → Bool) (i n : ℕ) → p i ≡ false → q i ≡ true → ((k : ℕ) → k ≢ i → q k ≡ p k) → i < n →
    filter q (range_with_len 0 n) ≡ with_input i (filter p (range_with_len 0 n))
back_in p q i n out back same inside =
    let now : List ℕ = filter q (range_with_len 0 n) in
    let rises = each_pair (λ x k. ltb x k ≡ true) now in
    let order : IsInOrder (Has now) ltb now = search (arith, rules, rises, kept_rise, lt-ltb, ltb-true) in
    search (arith, rules, put_is, put_back order i, left_out q p i out, has_kept, has_number)

-- ## Who waits

module _ (o : Orders) (places : List ℕ) (m : Partners) where
  pub waits-done : (i : ℕ) → length (outputs_of o i) ≤ get_or places i 0 → is_waiting o places m i ≡ false
  waits-done i l = and_left _ _ (le-ltb _ _ l)

module _ (o : Orders) (places : List ℕ) (m : Partners) (i : ℕ) where
  -- an input gets a partner
  pub joined_out : (j : ℕ) → i < length m →
      without i (waiting_inputs o places m) ≡ waiting_inputs o places (set m i (Some j))
  joined_out j inside = search (arith, rules, left_out, and_right, get_or-set_same, get_or-set_other)

  -- an input is parted, and has an output left: it goes back in, and there is room for it
  module _ (known : i < ports o) (inside : i < length m) (had : partner_of m i ≢ None)
      (left : get_or places i 0 < length (outputs_of o i)) where
    pub parted_back : with_input i (waiting_inputs o places m) ≡ waiting_inputs o places (set m i None)
    parted_back = search (arith, rules, back_in, and_right, get_or-set_same, get_or-set_other, lt-ltb)

    pub room_back : length (waiting_inputs o places m) < ports o
    room_back = grind (arith, common_steps, length-put, few_kept, length-range_with_len, ap length parted_back)

-- who waits is free
pub waiting-free : (o : Orders) → AreOffers o → (s : State) →
    waiting_inputs o s.places (matching_of o s) ≡ free_inputs o s
unfolding free_inputs is_free
waiting-free o v s = grind (arith, common_steps, filter_agree, is_none, partner-is)

-- ## At the beginning

pub waiting-first : (o : Orders) (m : Partners) → m ≡ replicate (ports o) None →
    inputs_with_offers o (ports o) ≡ waiting_inputs o (start o).places m
waiting-first o m e = grind (arith, common_steps, filter_agree, nobody, next_place-start, is_none, and-true)

-- ## What a core shows

-- its fields are what was shown
module _ (o : Orders) (fields now : Progress) (is : fields ≡ now) (shows : ShowsWaiting o now) where
  pub waits : fields.free ≡ waiting_inputs o fields.state.places fields.matching
  waits = subst (ShowsWaiting o) (sym is) shows

  -- no input waits twice
  pub free_differ : IsDistinct eqb fields.free
  free_differ = rw waits (search (arith, rules, IsDistinct-from_apart, ne_eqb, kept_rise))

  -- they wait in order of number
  pub free_rise : IsNonDecreasingBy (λ k. k) fields.free
  free_rise = rw waits (search (arith, rules, kept_rise, cases_lt))

-- who waits still, where one changed
pub ruleset still_steps = (waits, filter_agree, waits-done, is_none, get_or-set_other, cases_eq)

pub ruleset move_steps = (still_steps, free_differ, left_out, get_or-set_same, lt-ltb)

pub ruleset part_steps = (still_steps, room_back, parted_back)

pub ruleset take_steps = (still_steps, free_differ, joined_out)
