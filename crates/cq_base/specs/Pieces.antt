-- How many cells a captured packet is cut into.
use Rattle.std.specs.Prelude.{ℕ, max}
use Rattle.std.specs.Int.{div_ceil}

-- the cells of a packet of so many captured bytes, where a cell carries so many: enough to carry them, and at least one
unfoldable pub cells_of : ℕ → ℕ → ℕ
cells_of len cell_bytes = max 1 (div_ceil len cell_bytes)
