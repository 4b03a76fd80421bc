-- A cell with the bytes that it carries.
use Rattle.std.specs.Prelude.{ℕ, List}
use Rattle.cq_base.specs.declared.cell.Cell.{Cell}

-- a cell, and the bytes of its piece
pub record Piece : Type 0 where
  pub cell : Cell
  pub bytes : List ℕ
