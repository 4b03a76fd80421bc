-- Only proofs use this.
-- Which of 64 places may have a cell.
use Rattle.std.specs.Prelude.{◌≡◌, ℕ, ◌≤◌, List, length, Option, None, slice_index_or}
use Rattle.cq_base.specs.declared.cell.Queued.{Queued}
use Rattle.cq_base.specs.Limits.{most_ports}

-- there is a place for each port, and only the first ones may have a cell
pub record AreUsed (used : ℕ) (places : List (Option Queued)) : Type 0 where
  pub long : length places ≡ most_ports
  pub beyond : (k : ℕ) → used ≤ k → slice_index_or places k None ≡ None
