-- Only proofs use this.
-- Cells that stand below a number of inputs.
use Rattle.std.specs.Prelude.{◌≡◌, ℕ, ◌≤◌, List, length, Option, None}
use Rattle.cq_base.specs.declared.cell.Cell.{Cell}
use Rattle.cq_base.specs.Arrivals.{arrival_at}
use Rattle.cq_base.specs.Limits.{most_ports}

-- there is a place for each port, and no cell stands at one from this input on
pub record StandBelow (ports : ℕ) (cells : List (Option Cell)) : Type 0 where
  pub places : length cells ≡ most_ports
  pub beyond : (input : ℕ) → ports ≤ input → arrival_at cells input ≡ None
