-- Places in blocks: what is done to one block is done to the places where it stands, behind those of the blocks ahead.
use Rattle.cq_list.proofs.Terms.{common_steps, rules, ◌≡◌, ℕ, zero, suc, ◌+◌, ◌-◌, ◌<◌, ◌≤◌, List, [], ◌∷◌, ◌++◌, length, get_or, set, take, Some, arith, length-append, length-set, length-take, get_or-set_same, take-append-drop, append_assoc, insert, remove, slice_get, concat, take_all, take-set, take-set-le, take-take, take-append-le, concat-append, length-remove, insert_end, insert-append_left, insert-append_right, remove-append_left, remove-append_right, IsSpot, joined, pulled, slice_get_cases, drop}
use Rattle.cq_list.proofs.Sums.{ahead_next, length_added}

-- ## One block

pub shown_front : (xs ys : List ℕ) (k x : ℕ) → slice_get xs k ≡ Some x → slice_get (xs ++ ys) k ≡ Some x
shown_front xs ys k x e = grind (arith, common_steps, slice_get_cases)

pub shown_behind : (xs ys : List ℕ) (k : ℕ) → slice_get (xs ++ ys) (length xs + k) ≡ slice_get ys k
shown_behind xs ys k = grind (arith, common_steps, slice_get_cases)

pub shown_in : (blocks : List (List ℕ)) (i o x : ℕ) → i < length blocks → slice_get (get_or blocks i []) o ≡ Some x →
    slice_get (concat blocks) (length (concat (take i blocks)) + o) ≡ Some x
shown_in [] i o x inside at = absurd (omega arith)
shown_in (b ∷ bs) zero o x inside at = search (arith, rules, shown_front)
shown_in (b ∷ bs) (suc i) o x inside at = grind (arith, common_steps, length-append, shown_behind, shown_in bs i o x)

pub insert_in : (blocks : List (List ℕ)) (i o n y : ℕ) → i < length blocks → o ≤ length (get_or blocks i []) →
    length (concat (take i blocks)) + o ≡ n →
    concat (set blocks i (insert (get_or blocks i []) o y)) ≡ insert (concat blocks) n y
insert_in [] i o n y inside le place = absurd (omega arith)
insert_in (b ∷ bs) zero o n y inside le place = grind (arith, common_steps, insert-append_left)
insert_in (b ∷ bs) (suc i) o n y inside le place =
    grind (arith, common_steps, length-append, insert-append_right, insert_in bs i o (n - length b) y)

pub remove_in : (blocks : List (List ℕ)) (i o n : ℕ) → i < length blocks → o < length (get_or blocks i []) →
    length (concat (take i blocks)) + o ≡ n →
    concat (set blocks i (remove (get_or blocks i []) o)) ≡ remove (concat blocks) n
remove_in [] i o n inside lt place = absurd (omega arith)
remove_in (b ∷ bs) zero o n inside lt place = grind (arith, common_steps, remove-append_left)
remove_in (b ∷ bs) (suc i) o n inside lt place =
    grind (arith, common_steps, length-append, remove-append_right, remove_in bs i o (n - length b))

-- ## Blocks split, and a place at the end

pub split_in : (blocks : List (List ℕ)) (i : ℕ) (front back : List ℕ) → i < length blocks →
    front ++ back ≡ get_or blocks i [] → concat (insert (set blocks i front) (i + 1) back) ≡ concat blocks
split_in blocks zero front back inside parts = grind (arith, common_steps, append_assoc)
split_in blocks (suc i) front back inside parts = grind (arith, common_steps, split_in (drop 1 blocks) i)

-- a place at the end of the last block, or in a block of its own
pub append_in : (blocks : List (List ℕ)) (i y : ℕ) (block : List ℕ) → i + 1 ≡ length blocks →
    block ≡ get_or blocks i [] → concat (set blocks i (insert block (length block) y)) ≡ insert (concat blocks)
    (length (concat blocks)) y
append_in blocks i y block last read = grind (arith, common_steps, take_all, ahead_next length length_added, insert_in)

pub push_in : (blocks : List (List ℕ)) (y : ℕ) (block : List ℕ) → block ≡ insert [] 0 y →
    concat (blocks ++ block ∷ []) ≡ insert (concat blocks) (length (concat blocks)) y
push_in blocks y block is = grind (arith, common_steps, concat-append, insert_end)

-- ## A short block filled up

pub joined_in : (blocks : List (List ℕ)) (i : ℕ) → i + 1 < length blocks → concat (joined blocks i) ≡ concat blocks
joined_in blocks zero inside = grind (arith, common_steps, append_assoc)
joined_in blocks (suc i) inside = search (arith, rules, joined_in (drop 1 blocks) i)

pub pulled_in : (blocks : List (List ℕ)) (i : ℕ) → i + 1 < length blocks → concat (pulled blocks i) ≡ concat blocks
pulled_in blocks zero inside = grind (arith, common_steps, append_assoc, take-append-drop)
pulled_in blocks (suc i) inside = search (arith, rules, pulled_in (drop 1 blocks) i)

-- a place keeps its spot where the blocks ahead are the same and its own is no shorter
module _ (blocks : List (List ℕ)) (i : ℕ) (inside : i + 1 < length blocks) where
  pub joined_at : get_or (joined blocks i) i [] ≡ get_or blocks i [] ++ get_or blocks (i + 1) []
  joined_at = grind (arith, common_steps, length-remove, get_or-set_same)

  pub spot_joined : (place o : ℕ) → IsSpot blocks place i o → IsSpot (joined blocks i) place i o
  spot_joined place o spot =
      search (rules, length-set, length-take, take-set, take-append-le, take-take, joined_at, length-append)

  pub pulled_at : get_or (pulled blocks i) i [] ≡ get_or blocks i [] ++ take 1 (get_or blocks (i + 1) [])
  pulled_at = grind (arith, common_steps, length-set, get_or-set_same)

  pub spot_pulled : (place o : ℕ) → IsSpot blocks place i o → IsSpot (pulled blocks i) place i o
  spot_pulled place o spot = grind (arith, common_steps, length-set, take-set, take-set-le, pulled_at, length-append)
