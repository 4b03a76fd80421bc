-- The transfers of a phase tell its matching. They stand in the order of the inputs, at most one each, so two lists
-- of them that are equal are equal input by input. And a partner in a matching is offered, so its input has a first
-- cell for it, and that is noted.
use Rattle.cq_laws.proofs.Terms.{rules, ◌≡◌, ℕ, zero, suc, ◌+◌, ◌<◌, ◌≤◌, List, ◌∷◌, length, Option, None, Some, arith, common_steps, filter_map, range_with_len, cases_lt, ext_get_or, list_of, orders_of, noted, transfers_of, partner_of, Transfer, Queued, Partners, IsStable}
use Rattle.cq_laws.proofs.OneRun.{offer_of}

-- what a function notes of an input is a transfer of it
abbrev OwnInput : (ℕ → Option Transfer) → Type 0
OwnInput h = (i : ℕ) (t : Transfer) → h i ≡ Some t → t.input ≡ i

-- ## Lists of what is noted

-- the first that is noted from an input on is of none before it
first_from : (h : ℕ → Option Transfer) → OwnInput h → (a n : ℕ) (t : Transfer) (ts : List Transfer) →
    filter_map h (range_with_len a n) ≡ t ∷ ts → a ≤ t.input
first_from h own a zero t ts e = grind (arith, common_steps)
first_from h own a (suc n) t ts e = search (arith, rules, first_from h own (a + 1) n t ts)

one_by_one : (h k : ℕ → Option Transfer) → OwnInput h → OwnInput k → (a n : ℕ) →
    filter_map h (range_with_len a n) ≡ filter_map k (range_with_len a n) → (i : ℕ) → a ≤ i → i < a + n → h i ≡ k i
one_by_one h k own_h own_k a zero e i low high = absurd (omega arith)
one_by_one h k own_h own_k a (suc n) e i low high =
    search (arith, rules, cases_lt, first_from, one_by_one h k own_h own_k (a + 1) n)

-- ## Partners

pub transfers_tell : (lists : List (List Queued)) (m n : Partners) (slot phase : ℕ) → IsStable (orders_of lists) m →
    IsStable (orders_of lists) n → transfers_of m lists slot phase ≡ transfers_of n lists slot phase → m ≡ n
unfolding transfers_of
transfers_tell lists m n slot phase stable_m stable_n e =
    let notes : Partners → ℕ → Option Transfer = λ p i. noted slot phase i (list_of lists i) (partner_of p i) in
    let own : (p : Partners) → OwnInput (notes p) = search (arith, rules) in
    search (arith, rules, ext_get_or None m n, offer_of, one_by_one (notes m) (notes n) (own m) (own n) 0 (length m))
