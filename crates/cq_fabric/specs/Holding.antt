-- Which cells can wait in lists and buffers from the start.
use Rattle.std.specs.Prelude.{ℕ, ◌<◌, ◌≤◌, List, length, slice_index}
use Rattle.std.specs.List.{AllByRecursion}
use Rattle.cq_base.specs.declared.cell.Queued.{Queued}
use Rattle.cq_base.specs.Cells.{IsRising, KeepsOrder, KeysDiffer}
use Rattle.cq_prefs.specs.FirstCells.{list_of}

-- a list over so many outputs, with room for so many cells, can have these in this order
pub record CanWait (ports most : ℕ) (cells : List Queued) : Type 0 where
  pub room : length cells ≤ most
  pub outputs : AllByRecursion (λ c. c.cell.output < ports) cells
  pub order : KeepsOrder cells
  pub differ : KeysDiffer cells

-- a buffer with room for so many cells can have these
pub record CanStand (most : ℕ) (cells : List Queued) : Type 0 where
  pub room : length cells ≤ most
  pub rising : IsRising cells

-- lists and buffers with such rooms can have these cells
pub record CanHold (from_inputs to_outputs : List ℕ) (lists buffers : List (List Queued)) : Type 0 where
  pub inputs : (i : ℕ) → i < length lists → CanWait (length lists) (slice_index from_inputs i) (list_of lists i)
  pub outputs : (j : ℕ) → j < length buffers → CanStand (slice_index to_outputs j) (list_of buffers j)
