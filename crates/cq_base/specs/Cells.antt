-- Lists of cells that wait.
use Rattle.std.specs.Prelude.{◌≡◌, ◌≢◌, ℕ, ◌<◌, ◌&&◌, ◌==◌, Bool, true, if◌then◌else◌, List, [], ◌∷◌, length, Option, Some, min, filter, find, insert, slice_get}
use Rattle.std.specs.List.{AllByRecursion, position_or_len}
use Rattle.cq_base.specs.declared.cell.CellId.{CellId}
use Rattle.cq_base.specs.declared.cell.Queued.{Queued}
use Rattle.cq_base.specs.declared.key.Key.{Key}
use Rattle.cq_base.specs.Items.{EachPair}
use Rattle.cq_base.specs.Key.{is_before}

-- the first cell is the more urgent
abbrev pub IsBefore : Queued → Queued → Type 0
IsBefore a b = is_before a.key b.key ≡ true

-- the cells stand in the order of their keys, which all differ
abbrev pub IsRising : List Queued → Type 0
IsRising xs = EachPair IsBefore xs

-- the cells for one output stand in the order of their keys
abbrev pub KeepsOrder : List Queued → Type 0
KeepsOrder xs = EachPair (λ a b. a.cell.output ≡ b.cell.output → IsBefore a b) xs

-- no two cells have the same key
abbrev pub KeysDiffer : List Queued → Type 0
KeysDiffer xs = EachPair (λ a b. a.key ≢ b.key) xs

-- no cell of the list has the key of this one
abbrev pub HasOtherKey : Queued → List Queued → Type 0
HasOtherKey c xs = AllByRecursion (λ x. x.key ≢ c.key) xs

-- each cell arrived before this slot
abbrev pub ArrivedBefore : ℕ → List Queued → Type 0
ArrivedBefore slot xs = AllByRecursion (λ x. x.key.slot < slot) xs

-- whether the cell is for output j
abbrev pub is_for : ℕ → Queued → Bool
is_for j x = x.cell.output == j

-- whether it is the cell with this id
abbrev pub has_id : CellId → Queued → Bool
has_id id x = x.cell.id.input == id.input && x.cell.id.packet == id.packet && x.cell.id.index == id.index

-- the first cell for output j, if there is one
abbrev pub first_for : ℕ → List Queued → Option Queued
first_for j xs = find (is_for j) xs

-- its place, or the length of the list where there is none
abbrev pub place_for : ℕ → List Queued → ℕ
place_for j xs = position_or_len (is_for j) xs

-- the list without it
abbrev pub without_first : ℕ → List Queued → List Queued
without_first j [] = []
without_first j (x ∷ xs) = if is_for j x then xs else x ∷ without_first j xs

-- the list with one cell more: it stands before the first cell that is less urgent, and else at the end
abbrev pub put : Queued → List Queued → List Queued
put c [] = c ∷ []
put c (x ∷ xs) = if is_before c.key x.key then c ∷ x ∷ xs else x ∷ put c xs

-- how many cells have a lesser key
abbrev pub cushion : Key → List Queued → ℕ
cushion key xs = length (filter (λ x. is_before x.key key) xs)

-- the place of the first less urgent cell for the same output, or the length of the list where there is none
abbrev pub place_of_later : Queued → List Queued → ℕ
place_of_later c xs = position_or_len (λ x. is_for c.cell.output x && is_before c.key x.key) xs

-- the place where a cell with this cushion goes in when it arrives: its cushion, but before each less urgent cell for
-- its output, and no later than the end
abbrev pub place_of_arrival : ℕ → Queued → List Queued → ℕ
place_of_arrival cushion c xs = min cushion (min (place_of_later c xs) (length xs))

-- the list after it arrived
abbrev pub with_arrival : ℕ → Queued → List Queued → List Queued
with_arrival cushion c xs = insert xs (place_of_arrival cushion c xs) c

-- each more urgent cell for the same output stands at a place below the cushion
abbrev pub MoreUrgentAhead : ℕ → Queued → List Queued → Type 0
MoreUrgentAhead cushion c xs =
    (place : ℕ) (x : Queued) → slice_get xs place ≡ Some x → x.cell.output ≡ c.cell.output → IsBefore x c →
    place < cushion
