-- The traffic of a switch: cells, each with the slot in which it arrives.
use Rattle.std.specs.Prelude.{ℕ, ◌+◌, ◌&&◌, ◌==◌, Bool, max, List, [], ◌∷◌, length, map, find, Option, option_map}
use Rattle.std.specs.List.{range_with_len}
use Rattle.cq_base.specs.declared.cell.Cell.{Cell}
use Rattle.cq_base.specs.Limits.{most_ports}

-- a cell that arrives in a slot, at the input that its id names
pub record Arrival : Type 0 where
  pub slot : ℕ
  pub cell : Cell

-- whether the arrival is of this slot and at this input
abbrev pub is_at : ℕ → ℕ → Arrival → Bool
is_at slot input a = a.slot == slot && a.cell.id.input == input

-- the cell that arrives in a slot at an input, if one does
abbrev pub arriving_at : List Arrival → ℕ → ℕ → Option Cell
arriving_at came slot input = option_map (λ a. a.cell) (find (is_at slot input) came)

-- the cells that arrive in a slot: a place for each input
unfoldable pub arriving : List Arrival → ℕ → List (Option Cell)
arriving came slot = map (arriving_at came slot) (range_with_len 0 most_ports)

-- the first slot from which on no cell arrives any more
abbrev pub end_of : List Arrival → ℕ
end_of [] = 0
end_of (a ∷ came) = max (a.slot + 1) (end_of came)

-- slots that are enough for a run: those up to the last arrival, and then one for each cell
unfoldable pub enough : List Arrival → ℕ
enough came = end_of came + length came

-- what arrives in each slot of a run
unfoldable pub traffic_of : List Arrival → List (List (Option Cell))
traffic_of came = map (arriving came) (range_with_len 0 (enough came))
