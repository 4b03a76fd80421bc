-- Cells that arrived in slots before this one: they arrived before the next one too, also what is left of them where
-- one left, and with the newest among them.
use Rattle.cq_list_trials.proofs.Terms.{rules, ◌≡◌, ℕ, ◌+◌, cond, List, [], ◌∷◌, length, drop, Option, arith, is_some, cond_both, Queued, ArrivedBefore, first_for, without_first, put, all_at, all_by, all_left, common_steps, all_put}

pub older_still : (slot : ℕ) (xs : List Queued) → ArrivedBefore slot xs → ArrivedBefore (slot + 1) xs
older_still slot xs before = search (arith, rules, all_by, all_at)

-- ## A list

-- the first cell for an output left
pub arrived_left : (slot j : ℕ) (xs : List Queued) → ArrivedBefore slot xs →
    ArrivedBefore (slot + 1) (without_first j xs)
arrived_left slot j xs before = older_still slot (without_first j xs) (all_left _ j xs before)

-- how many cells were taken
abbrev pub count_taken : Option Queued → ℕ
count_taken taken = cond (is_some taken) 1 0

pub length_left : (j : ℕ) (xs : List Queued) →
    length (without_first j xs) + count_taken (first_for j xs) ≡ length xs
length_left j [] = omega arith
length_left j (x ∷ xs) = grind (arith, common_steps, cond_both, length_left j xs)

-- ## A buffer

-- the newest cell came in
pub arrived_put : (c : Queued) (xs : List Queued) → ArrivedBefore c.key.slot xs →
    ArrivedBefore (c.key.slot + 1) (put c xs)
arrived_put c xs before = all_put _ c xs (omega arith) (older_still c.key.slot xs before)

-- the first cell of all left
pub arrived_popped : (slot : ℕ) (xs : List Queued) → ArrivedBefore slot xs → ArrivedBefore (slot + 1) (drop 1 xs)
arrived_popped slot xs before = search (arith, rules, older_still)
