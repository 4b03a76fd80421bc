-- The cells that arrive in one slot, as a map from inputs: place i has the cell that came to input i.
use Rattle.std.specs.Prelude.{◌≡◌, ℕ, List, length, Option, None, Some, unwrap_or, replicate, slice_set, slice_get}
use Rattle.cq_base.specs.declared.cell.Cell.{Cell}
use Rattle.cq_base.specs.Limits.{most_ports}

-- no cell came to any input
abbrev pub no_arrivals : List (Option Cell)
no_arrivals = replicate most_ports None

-- the same arrivals, but that this is the cell that came to the input
abbrev pub with_arrival : List (Option Cell) → ℕ → Cell → List (Option Cell)
with_arrival cells input cell = slice_set cells input (Some cell)

-- the cell that came to an input: none where there is no such place
abbrev pub arrival_at : List (Option Cell) → ℕ → Option Cell
arrival_at cells input = unwrap_or (slice_get cells input) None

-- there is a place for each port, and each cell stands at the place of the input that its id names
pub record AreArrivals (cells : List (Option Cell)) : Type 0 where
  pub places : length cells ≡ most_ports
  pub own_input : (input : ℕ) (cell : Cell) → arrival_at cells input ≡ Some cell → cell.id.input ≡ input
