-- With which outputs an input blocks a matching: with those that it prefers to its partner and that have none which
-- they prefer to the input. So it is enough to look at its order up to its partner, and to keep the least output.
use Rattle.std.proofs.Common.{IfNone}
use Rattle.cq_audit.proofs.Terms.{common_steps, rules, ℕ, ◌≡◌, ◌+◌, ◌<◌, ◌≤◌, ◌⊎◌, List, length, take, Option, None, Some, IfSome, get_or, get_or-take, length-take-le, arith, cases_eq, cases_lt, AreOffers, IsOffered, Orders, outputs_of, place_of, ports, HasBetterInput, IsBlocking, Partners, partner_place, output_in_range, place_in-le-length, place_of-at, same_at_place}

module _ (o : Orders) (m : Partners) (i : ℕ) where
  pub is_ahead : (j : ℕ) → IsBlocking o m i j → place_of o i j < partner_place o m i
  is_ahead j blocks = search (arith, rules, cases_lt, same_at_place)

  -- ## The least of the outputs so far

  abbrev IsUpTo : Option ℕ → ℕ → Type 0
  IsUpTo None j = ⊥
  IsUpTo (Some least) j = least ≤ j

  -- among the first n of the order
  pub record LeastUntil (n : ℕ) (found : Option ℕ) : Type 0 where
    pub blocks : IfSome found (λ j. IsBlocking o m i j)
    pub least : (j : ℕ) → place_of o i j < n → IsBlocking o m i j → IsUpTo found j

  module _ (xs : List ℕ) (are : xs ≡ take (partner_place o m i) (outputs_of o i)) (n : ℕ) where
    -- all that are ahead were looked at
    pub at_end : (found : Option ℕ) → LeastUntil n found → length xs ≤ n →
        IfSome found (λ j. (l : ℕ) → IsBlocking o m i l → j ≤ l) × IfNone found ((l : ℕ) → IsBlocking o m i l → ⊥)
    at_end found had all = grind (arith, common_steps, length-take-le, place_in-le-length, is_ahead, had.least)

    -- the output at place n
    module _ (offers : AreOffers o) (inside : n < length xs) where
      abbrev output : ℕ
      output = get_or xs n 0

      pub stands : (place_of o i output ≡ n) × (n < partner_place o m i) × IsOffered o i output
      stands = grind (arith, common_steps, place_in-le-length, length-take-le, place_of-at, get_or-take)

      pub in_range : length m ≡ ports o → output < length m
      in_range square = grind (arith, common_steps, output_in_range, stands)

      -- it does not block, or is not less than the least
      pub kept : {found : Option ℕ} → LeastUntil n found → HasBetterInput o m i output ⊎ IsUpTo found output →
          LeastUntil (n + 1) found
      kept had why = search (arith, rules, same_at_place, stands, cases_eq)

      -- it blocks, and is less
      pub taken : {found : Option ℕ} → LeastUntil n found → (HasBetterInput o m i output → ⊥) →
          ((l : ℕ) → found ≡ Some l → output < l) → LeastUntil (n + 1) (Some output)
      taken had none less = search (arith, rules, same_at_place, cases_eq, stands)
