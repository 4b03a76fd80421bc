-- At most one cell leaves each list and at most one comes to each buffer: a list loses its first cell for its partner
-- or nothing, and a buffer has a partner's cell put in or is as before. And two transfers of one input, or of one
-- output, are of one input, so they are one.
use Rattle.cq_xbar.proofs.Terms.{common_steps, rules, ◌≡◌, ℕ, zero, suc, ◌+◌, ◌<◌, ◌⊎◌, inl, inr, false, List, [], ◌∷◌, length, map, Option, Some, refl, ⊎_elim, arith, nat_eq, range_with_len, filter_map, AllByRecursion, IsDistinct, cond_both, cases_Bool, eqb-true, Queued, Transfer, without_first, Moves, list_taken, noted, transfers_of, Partners, partner_of, ArePairs, IsFreeOutput, HaveCells, IsSameOrNext, MovesOneEach, NotesOneEach, length_put}

-- ## Cells

pub without_length : (j : ℕ) (xs : List Queued) → IsSameOrNext (length (without_first j xs)) (length xs)
without_length j [] = inl refl
without_length j (x ∷ xs) = grind (arith, common_steps, cond_both, without_length j xs)

taken_length : (p : Option ℕ) (xs : List Queued) → IsSameOrNext (length (list_taken p xs)) (length xs)
taken_length p xs = grind (arith, common_steps, without_length)

-- an output has a partner or has none
pub partner_or_free : (m : Partners) (j : ℕ) → ((i : ℕ) × (partner_of m i ≡ Some j)) ⊎ IsFreeOutput m j
partner_or_free [] j = inr (λ i e. cc)
partner_or_free (p ∷ m) j =
    let first : (p ≡ Some j) ⊎ (p ≡ Some j → ⊥) = grind (arith, common_steps) in
    ⊎_elim (λ r. inl (suc r.0, r.1))
    (λ free. ⊎_elim (λ e. inl (zero, e)) (λ ne. inr (search (rules, ne, free))) first) (partner_or_free m j)

pub moves_one_each : (m : Partners) (lists buffers lists' buffers' : List (List Queued)) → HaveCells m lists →
    Moves m lists buffers lists' buffers' → MovesOneEach lists buffers lists' buffers'
moves_one_each m lists buffers lists' buffers' have moves =
    record {
      leaves = search (arith, rules, moves.taken, taken_length);
      comes = λ j. ⊎_elim (λ r. let c = have r.0 j r.1 in search (arith, rules, moves.given r.0 j c.0, length_put))
          (λ free. search (rules, moves.kept)) (partner_or_free m j);
    }

-- ## Transfers

-- what is made of numbers that rise differs by a key that no two of them share
module _ (f : ℕ → Option Transfer) (key : Transfer → ℕ)
    (apart : (i k : ℕ) (s t : Transfer) → f i ≡ Some s → f k ≡ Some t → key s ≡ key t → i ≡ k) where
  all_unlike : (s : Transfer) (i a n : ℕ) → f i ≡ Some s → i < a →
      AllByRecursion (λ y. nat_eq (key s) y ≡ false) (map key (filter_map f (range_with_len a n)))
  all_unlike s i a zero at_i l = tt
  all_unlike s i a (suc n) at_i l = grind (arith, common_steps, all_unlike s i (a + 1) n, eqb-true, cases_Bool)

  all_distinct : (a n : ℕ) → IsDistinct nat_eq (map key (filter_map f (range_with_len a n)))
  unfolding IsDistinct
  all_distinct a zero = tt
  all_distinct a (suc n) = grind (arith, common_steps, all_unlike, all_distinct (a + 1) n)

-- what a transfer says of the pair that it is of
noted_pair : (slot phase i : ℕ) (cells : List Queued) (p : Option ℕ) (t : Transfer) →
    noted slot phase i cells p ≡ Some t → (t.input ≡ i) × (p ≡ Some t.output)
noted_pair slot phase i cells p t e = grind (arith, common_steps)

pub notes_one_each : (m : Partners) (lists : List (List Queued)) (slot phase : ℕ) → ArePairs m →
    NotesOneEach (transfers_of m lists slot phase)
unfolding transfers_of
notes_one_each m lists slot phase pairs = search (rules, noted_pair, all_distinct, pairs.once)
