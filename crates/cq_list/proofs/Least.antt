-- The place of the first cell with an id, looked for in one queue after another. The cells for the outputs so far
-- that have the id first stand somewhere, and those for the next output first stand somewhere: the first of both
-- stands at the lesser of the two places. In the end these are the cells for all outputs.
use Rattle.cq_list.proofs.Terms.{common_steps, rules, ◌≡◌, ◌≢◌, ℕ, ◌+◌, ◌<◌, ◌≤◌, ltb, min, Bool, List, [], ◌∷◌, length, Some, None, refl, arith, ◌&&◌, ◌||◌, position, AllByRecursion, position_or_len, lt-ltb, le-ltb, nat_tests, Queued, is_for, has_id, first_later, first_inside}
use Rattle.cq_base.specs.declared.cell.CellId.{CellId}
use Rattle.cq_list.proofs.Kept.{had, as_many}

-- whether it is for one of the first so many outputs, and has the id
abbrev pub is_below : CellId → ℕ → Queued → Bool
is_below id n x = ltb x.cell.output n && has_id id x

pub least_starts : (id : CellId) (xs : List Queued) → position_or_len (is_below id 0) xs ≡ length xs
least_starts id [] = refl
least_starts id (x ∷ xs) = grind (arith, common_steps, first_later, le-ltb, least_starts id xs)

-- what passes one of two tests stands first at the lesser of the places of what passes each
first_of_either : {X : Type 0} (p q : X → Bool) (xs : List X) →
    min (position_or_len p xs) (position_or_len q xs) ≡ position_or_len (λ x. p x || q x) xs
first_of_either p q [] = refl
first_of_either p q (x ∷ xs) = grind (arith, common_steps, first_of_either p q xs)

pub least_next : (id : CellId) (j : ℕ) (xs : List Queued) →
    min (position_or_len (is_below id j) xs) (position_or_len (λ x. is_for j x && has_id id x) xs)
    ≡ position_or_len (is_below id (j + 1)) xs
least_next id j xs = search (arith, rules, first_of_either, nat_tests)

pub least_of_all :
    (id : CellId) (n : ℕ) (xs : List Queued) → AllByRecursion (λ x. x.cell.output < n) xs →
    position_or_len (is_below id n) xs ≡ position_or_len (has_id id) xs
least_of_all id n [] all = refl
least_of_all id n (x ∷ xs) all = simp (lt-ltb x.cell.output n all.0, least_of_all id n xs all.1)

-- ## A place that was found, or not, among the cells for all outputs

module _ (id : CellId) (n outputs place : ℕ) (xs : List Queued)
    (all : AllByRecursion (λ x. x.cell.output < outputs) xs) (few : n ≤ outputs) (many : outputs ≤ n)
    (is : place ≡ position_or_len (is_below id n) xs) (len : ℕ) (long : len ≡ length xs) where
  pub found_at : place ≢ len → Some place ≡ position (has_id id) xs
  found_at other = grind (arith, common_steps, least_of_all, first_inside, lt-ltb)

  pub found_nowhere : place ≡ len → None ≡ position (has_id id) xs
  found_nowhere end = grind (arith, common_steps, least_of_all, le-ltb)

-- from one output to the next
pub ruleset least_steps = (least_starts, least_next, found_at, found_nowhere, had, as_many)
