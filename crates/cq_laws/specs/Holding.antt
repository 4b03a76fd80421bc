-- How many cells an output of the fabric holds: all cells for it, in the lists of the inputs and in its buffer.
use Rattle.std.specs.Prelude.{ℕ, ◌+◌, ◌++◌, List, [], ◌∷◌, length, map, filter}
use Rattle.std.specs.List.{flat_map, range_with_len}
use Rattle.cq_base.specs.declared.cell.Queued.{Queued}
use Rattle.cq_base.specs.Cells.{is_for}
use Rattle.cq_laws.specs.Fabric.{Fabric, buffer}

-- how many of the cells that wait at the inputs are for output j
abbrev pub waiting_for : ℕ → List (List Queued) → ℕ
waiting_for j [] = 0
waiting_for j (cells ∷ lists) = length (filter (is_for j) cells) + waiting_for j lists

-- how many cells for output j the fabric holds, at the inputs and in its buffer
abbrev pub held_for : ℕ → Fabric → ℕ
held_for j f = waiting_for j f.inputs + length (buffer f j)

-- these cells: those of the first input's list, of the second's and so on, and those of the buffer
abbrev pub cells_for : ℕ → Fabric → List Queued
cells_for j f = flat_map (filter (is_for j)) f.inputs ++ buffer f j

-- how many each output holds
unfoldable pub fabric_held : Fabric → List ℕ
fabric_held f = map (λ j. held_for j f) (range_with_len 0 (length f.inputs))
