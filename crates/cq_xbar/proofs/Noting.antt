-- What is kept of the numbers below one: of one number more what is made of it is put at the end, and there is no more
-- than one a number. So the transfers of a matching are noted, input by input.
use Rattle.cq_xbar.proofs.Terms.{rules, ◌≡◌, ℕ, ◌+◌, ◌≤◌, List, [], ◌∷◌, ◌++◌, length, Option, Some, None, arith, common_steps, range_with_len, filter_map, option_to_list, append-nil, length-range_with_len, filter_map-append, Queued, Transfer, first_for, list_of, noted, Partners, partner_of}
use Rattle.cq_base.proofs.Pooled.{looked_few}
use Rattle.cq_prefs.proofs.Members.{range_next}

module _ {X : Type 0} (f : ℕ → Option X) (n : ℕ) where
  pub kept_more : filter_map f (range_with_len 0 (n + 1)) ≡ filter_map f (range_with_len 0 n) ++ option_to_list (f n)
  kept_more = search (arith, rules, range_next, filter_map-append)

  pub kept_past : f n ≡ None → filter_map f (range_with_len 0 (n + 1)) ≡ filter_map f (range_with_len 0 n)
  kept_past none = grind (arith, common_steps, kept_more, append-nil)

  pub kept_few : length (filter_map f (range_with_len 0 n)) ≤ n
  kept_few = grind (arith, common_steps, looked_few, length-range_with_len)

-- the transfers of the inputs below n
abbrev pub noted_until : Partners → List (List Queued) → ℕ → ℕ → ℕ → List Transfer
noted_until m lists slot phase n =
    filter_map (λ i. noted slot phase i (list_of lists i) (partner_of m i)) (range_with_len 0 n)

pub noted_past : (m : Partners) (lists : List (List Queued)) (slot phase n : ℕ) → partner_of m n ≡ None →
    noted_until m lists slot phase (n + 1) ≡ noted_until m lists slot phase n
noted_past m lists slot phase n none = grind (arith, common_steps, kept_past)

pub noted_one : (m : Partners) (lists : List (List Queued)) (slot phase n j : ℕ) (c : Queued) →
    partner_of m n ≡ Some j → first_for j (list_of lists n) ≡ Some c →
    let t : Transfer = record { slot = slot; phase = phase; input = n; output = j; id = c.cell.id } in
    noted_until m lists slot phase (n + 1) ≡ noted_until m lists slot phase n ++ t ∷ []
noted_one m lists slot phase n j c p found = grind (arith, common_steps, kept_more)
