-- Cells in blocks, one after another. What is done to one block is done to the cells where it stands, behind those of
-- the blocks ahead.
use Rattle.cq_base.proofs.Library.{append-nil}
use Rattle.cq_urgency.proofs.Terms.{common_steps, rules, ◌≡◌, ℕ, zero, suc, ◌+◌, ◌<◌, ◌≤◌, ◌-◌, List, [], ◌∷◌, ◌++◌, length, set, take, drop, Some, refl, append_assoc, length-append, take-append-drop, arith, insert, slice_get, insert-append_left, insert-append_right, sum_by-cons, sum_by_more, take_all, Queued, flattened, block_at, cells_in_all, halved, cases_lt, slice_get_cases, few_kept}

pub length-flattened : (blocks : List (List Queued)) → cells_in_all blocks ≡ length (flattened blocks)
length-flattened [] = refl
length-flattened (b ∷ bs) = grind (arith, common_steps, length-append, sum_by-cons, length-flattened bs)

pub some_blocks : (blocks : List (List Queued)) → 0 < length (flattened blocks) → 0 < length blocks
some_blocks blocks some = grind (arith, common_steps, cases_lt)

-- the cells of one block more stand behind those of the blocks so far
pub one_more : (blocks : List (List Queued)) (i : ℕ) → i < length blocks →
    flattened (take (i + 1) blocks) ≡ flattened (take i blocks) ++ block_at blocks i
one_more blocks zero inside = search (arith, rules, append-nil)
one_more blocks (suc i) inside = search (arith, rules, append_assoc, one_more (drop 1 blocks) i)

-- ## One block

behind : (xs ys : List Queued) (k n : ℕ) → n ≡ length xs + k → slice_get (xs ++ ys) n ≡ slice_get ys k
behind xs ys k n e = grind (arith, common_steps, slice_get_cases)

pub shown_in : (blocks : List (List Queued)) (i o n : ℕ) (x : Queued) → i < length blocks →
    slice_get (block_at blocks i) o ≡ Some x → n ≡ cells_in_all (take i blocks) + o →
    slice_get (flattened blocks) n ≡ Some x
shown_in [] i o n x inside at place = absurd (omega arith)
shown_in (b ∷ bs) zero o n x inside at place = grind (arith, common_steps, slice_get_cases)
shown_in (b ∷ bs) (suc i) o n x inside at place =
    grind (arith, common_steps, sum_by-cons, behind, shown_in bs i o (cells_in_all (take i bs) + o) x)

pub insert_in : (blocks : List (List Queued)) (i o n : ℕ) (y : Queued) → i < length blocks →
    o ≤ length (block_at blocks i) → cells_in_all (take i blocks) + o ≡ n →
    flattened (set blocks i (insert (block_at blocks i) o y)) ≡ insert (flattened blocks) n y
insert_in [] i o n y inside le place = absurd (omega arith)
insert_in (b ∷ bs) zero o n y inside le place = grind (arith, common_steps, insert-append_left)
insert_in (b ∷ bs) (suc i) o n y inside le place =
    grind (arith, common_steps, sum_by-cons, insert-append_right, insert_in bs i o (n - length b) y)

-- ## A block split

pub split_in : (blocks : List (List Queued)) (i : ℕ) (front back : List Queued) → i < length blocks →
    front ++ back ≡ block_at blocks i → flattened (insert (set blocks i front) (i + 1) back) ≡ flattened blocks
split_in blocks zero front back inside parts = grind (arith, common_steps, append_assoc)
split_in blocks (suc i) front back inside parts = grind (arith, common_steps, split_in (drop 1 blocks) i front back)

pub flattened-halved : (blocks : List (List Queued)) (i : ℕ) → i < length blocks →
    flattened (halved blocks i) ≡ flattened blocks
flattened-halved blocks i inside = search (rules, split_in, take-append-drop)

-- the cell at a place
pub ruleset at_steps = (sum_by_more, take_all, length-flattened, shown_in)

pub ruleset cushion_steps = (some_blocks, length-flattened, few_kept)
