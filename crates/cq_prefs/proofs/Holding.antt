-- Who holds whom in a state that events reach. The test computes what is said, and an input is held by one output at
-- most, the one that it asked last. So the matching of the state has exactly the pairs of an output and the input that
-- it holds.
use Rattle.cq_prefs.proofs.Terms.{rules, tests, ℕ, ◌≡◌, ◌≢◌, ◌<◌, Bool, true, List, [], ◌∷◌, length, Option, Some, None, refl, sym, ◌∙◌, ap, arith, common_steps, find, is_none, range_with_len, cases_lt, cond_both, ltb-true, lt-ltb, eq-eqb, and_parts, and_from, true≢false, get_or_past, ext_get_or, length-map-range_with_len, get_or-map-range_with_len, Orders, AreOffers, ports, inputs_of, Partners, partner_of, IsMatching, State, Holds, IsFree, IsSound, holder, holds, position_held, keeper, is_free, matching_of, Has, has_number, find_at, passes_at_first, slice_get_within, slice_get-get_or}
use Rattle.cq_prefs.proofs.Places.{same_at_place, input_in_range, output_in_range, position_of-at}

-- ## The one that passes a test

pub found_passes : (p : ℕ → Bool) (xs : List ℕ) (y : ℕ) → find p xs ≡ Some y → p y ≡ true
found_passes p xs y e = search (arith, rules, find_at, passes_at_first p xs y, slice_get_within, slice_get-get_or)

found_only : (p : ℕ → Bool) (xs : List ℕ) (y : ℕ) → Has xs y → p y ≡ true → ((z : ℕ) → p z ≡ true → z ≡ y) →
    find p xs ≡ Some y
found_only p [] y m h only = absurd m
found_only p (x ∷ xs) y m h only = grind (arith, common_steps, cond_both, true≢false, found_only p xs y)

-- ## Who is held

pub keeper-holds : (o : Orders) (s : State) (i j : ℕ) → keeper o s i ≡ Some j → Holds o s j i
unfolding keeper
keeper-holds o s i j e = search (arith, rules, tests, and_parts, found_passes)

pub none_unless : {X : Type 0} (p : Option X) → ((x : X) → p ≡ Some x → ⊥) → p ≡ None
none_unless p h = grind (arith, common_steps, h)

module _ (o : Orders) (v : AreOffers o) (s : State) where
  -- the partner of an input in the matching of the state
  pub partner-is : (i : ℕ) → partner_of (matching_of o s) i ≡ keeper o s i
  unfolding matching_of
  partner-is i =
      let long = length-map-range_with_len (keeper o s) 0 (ports o) in
      let past = λ (j : ℕ) (e : keeper o s i ≡ Some j).
      input_in_range o i j (v.shown_back i j (keeper-holds o s i j e).1) in
      search (arith, rules, get_or-map-range_with_len, get_or_past, none_unless (keeper o s i), past, cases_lt)

  -- who is matched is held, and who is held is matched
  pub partner-holds : (i j : ℕ) → partner_of (matching_of o s) i ≡ Some j → Holds o s j i
  partner-holds i j e = keeper-holds o s i j (sym (partner-is i) ∙ e)

  pub matching-of : IsMatching o (matching_of o s)
  unfolding matching_of
  matching-of =
      record {
        size = length-map-range_with_len (keeper o s) 0 (ports o);
        offered = λ i j e. v.shown_back i j (partner-holds i j e).1;
        once = λ i k j e f. let a = partner-holds i j e in
            same_at_place (inputs_of o j) i k (omega (arith, a.0, (partner-holds k j f).0)) a.1;
      }

  -- ## Who is free

  pub partner-free : (i : ℕ) → IsFree o s i → partner_of (matching_of o s) i ≡ None
  partner-free i f = none_unless _ (λ j e. f.unheld j (partner-holds i j e))

  pub free_only_if : (i : ℕ) → IsFree o s i → is_free o s i ≡ true
  unfolding is_free
  free_only_if i f =
      and_from _ _ (lt-ltb _ _ f.left) (ap is_none (none_unless _ (λ j e. f.unheld j (keeper-holds o s i j e))))

  -- ## In a sound state

  module _ (w : IsSound o s) where
    -- an output that does not hold nobody holds its holder
    pub holder-holds : (j : ℕ) → j < ports o → position_held s j ≢ ports o → Holds o s j (holder o s j)
    holder-holds j r n = grind (arith, common_steps, w.held_in j r, position_of-at o v j (position_held s j))

    -- one output at most holds an input
    pub held_once : (i j k : ℕ) → Holds o s j i → Holds o s k i → j ≡ k
    held_once i j k a b = grind (arith, common_steps, same_at_place, w.last, v.shown_back)

    pub keeper-from : (i j : ℕ) → Holds o s j i → keeper o s i ≡ Some j
    unfolding keeper
    keeper-from i j h =
        let only = found_only (holds o s i) (range_with_len 0 (ports o)) j in
        search (arith, rules, tests, only, has_number, and_from, eq-eqb, lt-ltb, held_once, and_parts, output_in_range)

    pub partner-from : (i j : ℕ) → Holds o s j i → partner_of (matching_of o s) i ≡ Some j
    partner-from i j h = partner-is i ∙ keeper-from i j h

    -- the matching is what shows exactly who is held
    pub matching_of-is : (m : Partners) → length m ≡ ports o → ((k q : ℕ) → partner_of m k ≡ Some q → Holds o s q k) →
        ((k q : ℕ) → Holds o s q k → partner_of m k ≡ Some q) → m ≡ matching_of o s
    matching_of-is m size there back =
        ext_get_or None m (matching_of o s) (size ∙ sym matching-of.size) (λ k l. at k (partner_of m k) refl)
      where
        at : (k : ℕ) (p : Option ℕ) → partner_of m k ≡ p → partner_of m k ≡ partner_of (matching_of o s) k
        at k None e = e ∙ sym (none_unless _ (λ q h. let x = back k q (partner-holds k q h) in let P : ⊥ = cc in P))
        at k (Some q) e = e ∙ sym (partner-from k q (there k q e))

    pub free_if : (i : ℕ) → is_free o s i ≡ true → IsFree o s i
    unfolding is_free
    free_if i h = search (arith, rules, and_parts, ltb-true, keeper-from)
