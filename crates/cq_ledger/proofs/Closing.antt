-- A seat that has claimed every port and has nobody in its hand knows the whole phase: no other seat has a claim, so
-- none has made a proposal or has an input in its hand. Nobody is dropped, so nobody is free.
use Rattle.cq_ledger.proofs.Terms.{rules, ℕ, ◌≡◌, ◌≢◌, ◌<◌, List, [], ◌∷◌, None, refl, arith, sum_by, cases_eq, sum_by-cons, Orders, ports, IsInputBest, proposals, next_output-offered, IsQuiescent, state_after, matching_of, IsLedger, Sits, bit, input_in_range, events-quiet, View, common_steps, spent, at_set, suc}
use Rattle.cq_prefs.proofs.Quiet.{input_best-quiet}
use Rattle.cq_ledger.proofs.Views.{bits, same_at, made_with}

none_made : (views : List View) → ((a : ℕ) (u : View) → Sits views a u → u.made ≡ 0) →
    sum_by (λ (y : View). y.made) views ≡ 0
none_made [] h = refl
none_made (x ∷ xs) h = grind (arith, common_steps, sum_by-cons, none_made xs (λ n. h (suc n)), h 0 x refl)

-- where no other seat made any, the sum is what the one made
one_made : (views : List View) (id : ℕ) (v : View) → Sits views id v →
    ((a : ℕ) (u : View) → a ≢ id → Sits views a u → u.made ≡ 0) → sum_by (λ (y : View). y.made) views ≡ v.made
one_made views id v e h = search (arith, rules, none_made, at_set, h, made_with views id v spent e)

module _ (o : Orders) (words : List ℕ) (views : List View) (k : IsLedger o words views) (id : ℕ) (v : View)
    (at_id : Sits views id v)
    (all : (i : ℕ) → i < ports o → bit v.claims i ≡ 1) (empty : v.hand ≡ None) where
  others_idle : (a : ℕ) (u : View) → a ≢ id → Sits views a u → (u.hand ≡ None) × (u.made ≡ 0)
  others_idle a u n at = k.idle a u at (bits.none u.claims (λ q h.
      n (k.claims.apart a id q u v at at_id h (all q (k.claims.in_range q (k.claims.claimed a q u at h))))))

  pub closing-quiet : IsQuiescent o (state_after o k.events)
  closing-quiet i f =
      let r = input_in_range o i _ (next_output-offered o k.offers (state_after o k.events) i f.left) in
      search (arith, rules, k.claims.claimed, k.hands.undropped i f, cases_eq, others_idle, same_at)

  -- what the words show is the one matching that is best for the inputs, and the seat made its proposals
  pub closing-best : IsInputBest o (matching_of o (state_after o k.events))
      × (v.made ≡ proposals o (matching_of o (state_after o k.events)))
  closing-best = search (rules, input_best-quiet, closing-quiet, one_made views id v at_id, others_idle, events-quiet)
