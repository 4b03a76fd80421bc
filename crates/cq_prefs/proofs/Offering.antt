-- The inputs that have an offer, counted from the first on: one more is listed where its order has an output. And where
-- no order has one, each is empty.
use Rattle.cq_prefs.proofs.Terms.{common_steps, ℕ, ◌≡◌, ◌+◌, ◌≤◌, Bool, true, false, List, [], ◌∷◌, ◌++◌, length, get_or, list_all, filter, refl, arith, cases_lt, cond-true, cond-false, eqb, eqb-true, eq-eqb, lt-ltb, le-ltb, true≢false, append-nil, filter-append, length-range_with_len, nil_from_length, few_kept, Orders, outputs_of, has_offer, inputs_with_offers}
use Rattle.cq_prefs.proofs.Members.{range_next}

module _ (o : Orders) (n : ℕ) where
  offers-next : inputs_with_offers o (n + 1) ≡ inputs_with_offers o n ++ filter (has_offer o) (n ∷ [])
  offers-next = grind (arith, common_steps, range_next, filter-append)

  -- an order is empty or not
  module _ (order : List ℕ) (empty : Bool) (is : order ≡ outputs_of o n) (tells : empty ≡ eqb (length order) 0) where
    pub offers-more : empty ≡ false → inputs_with_offers o (n + 1) ≡ inputs_with_offers o n ++ n ∷ []
    offers-more some = grind (arith, common_steps, offers-next, cond-true, lt-ltb, true≢false, eq-eqb, cases_lt)

    pub offers-same : empty ≡ true → inputs_with_offers o (n + 1) ≡ inputs_with_offers o n
    offers-same none = grind (arith, common_steps, offers-next, cond-false, append-nil, eqb-true, le-ltb)

  pub few_offers : length (inputs_with_offers o n) ≤ n
  few_offers = grind (arith, common_steps, few_kept, length-range_with_len)

-- ## No input has one

pub none_offers : (orders : List (List ℕ)) → list_all (λ order. eqb (length order) 0) orders ≡ true → (i : ℕ) →
    get_or orders i [] ≡ []
none_offers [] all i = refl
none_offers (order ∷ orders) all i = grind (arith, common_steps, nil_from_length, eqb-true, none_offers orders)
