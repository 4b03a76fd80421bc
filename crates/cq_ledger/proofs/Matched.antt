-- The matching is read off the words, one output after another.
use Rattle.cq_ledger.proofs.Terms.{rules, ℕ, ◌≡◌, ◌≢◌, ◌+◌, ◌<◌, length, set, Some, None, ◌∙◌, arith, common_steps, cases_eq, get_or-set_same, get_or-set_other, length-set, Orders, AreOffers, ports, outputs_of, Partners, partner_of, State, position_held, Holds, holder, IsSound, same_at_place, input_in_range, inputs_at_most, holder-holds, none_unless}

-- the matching has the pairs of the outputs below n and of those whom they hold, and no others
pub record IsRead (o : Orders) (s : State) (m : Partners) (n : ℕ) : Type 0 where
  pub size : length m ≡ ports o
  pub there : (k q : ℕ) → partner_of m k ≡ Some q → (q < n) × Holds o s q k
  pub back : (k q : ℕ) → q < n → Holds o s q k → partner_of m k ≡ Some q

-- an output that was not read is free
pub output_free : (o : Orders) (s : State) (m : Partners) (n : ℕ) → IsRead o s m n → (x : ℕ) → partner_of m x ≢ Some n
output_free o s m n r x e = let l = (r.there x n e).0 in absurd (omega arith)

module _ (o : Orders) (v : AreOffers o) (s : State) (w : IsSound o s) (m : Partners) (n : ℕ) (r : IsRead o s m n) where
  pub reads_skip : position_held s n ≡ ports o → IsRead o s m (n + 1)
  reads_skip e =
      let few = inputs_at_most o v n in
      record { size = r.size; there = search (arith, rules, r.there); back = search (arith, rules, r.back, cases_eq) }

  -- an output that holds somebody
  module _ (range : n < ports o) (somebody : position_held s n ≢ ports o) (k : ℕ) (is : k ≡ holder o s n) where
    hold : Holds o s n k
    hold = rw is (holder-holds o v s w n range somebody)

    pub k_free : (k < length m) × (partner_of m k ≡ None)
    k_free = (
      let a = input_in_range o k n (v.shown_back k n hold.1) in omega arith,
      none_unless _ (λ q e. search (arith, rules, hold, same_at_place (outputs_of o k) q n)),
    )

    pub reads_more : IsRead o s (set m k (Some n)) (n + 1)
    reads_more =
        let free = k_free in let here = hold in let same = get_or-set_same m k in let other = get_or-set_other m k in
        record {
          size = length-set m k _ ∙ r.size;
          there = λ x q e. grind (arith, common_steps, r.there x q, same, other x, free, here);
          back = λ x q l h. grind (arith, common_steps, r.back x q, same, other x, same_at_place, free, here);
        }
