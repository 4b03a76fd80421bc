-- The cell that arrived last in a list.
use Rattle.std.specs.Prelude.{◌≡◌, ℕ, List, Some, slice_get}
use Rattle.cq_base.specs.declared.cell.Queued.{Queued}

-- the cell stands in the list, and no other cell there arrived in its slot
pub record IsNewest (c : Queued) (cells : List Queued) : Type 0 where
  pub place : ℕ
  pub at : slice_get cells place ≡ Some c
  pub alone : (other : ℕ) (x : Queued) → slice_get cells other ≡ Some x → x.key.slot ≡ c.key.slot → other ≡ place
