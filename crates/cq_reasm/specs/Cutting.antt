-- How a captured frame is cut into the pieces of its cells.
use Rattle.std.specs.Prelude.{◌≡◌, ℕ, ◌+◌, ◌-◌, ◌*◌, ◌<◌, List, [], ◌∷◌, length, min, take, drop}
use Rattle.std.specs.List.{flat_map}
use Rattle.cq_base.specs.Pieces.{cells_of}
use Rattle.cq_reasm.specs.Piece.{Piece}

-- the cell is this one of the frame: its piece begins where the pieces of the cells before it end, and is as long as
-- they are, or as what is left of the frame
pub record IsCutFrom (frame : List ℕ) (cell_bytes index : ℕ) (piece : Piece) : Type 0 where
  pub at : piece.cell.at ≡ index * cell_bytes
  pub len : piece.cell.len ≡ min cell_bytes (length frame - piece.cell.at)
  pub stretch : piece.bytes ≡ take piece.cell.len (drop piece.cell.at frame)

-- consecutive cells of the frame, from one on
abbrev pub AreCutFrom : List ℕ → ℕ → ℕ → List Piece → Type 0
AreCutFrom frame cell_bytes index [] = Unit {0}
AreCutFrom frame cell_bytes index (x ∷ rest) =
    IsCutFrom frame cell_bytes index x × AreCutFrom frame cell_bytes (index + 1) rest

-- the pieces of cells, joined in order
abbrev pub joined_pieces : List Piece → List ℕ
joined_pieces pieces = flat_map (λ x. x.bytes) pieces

-- those of all cells of a frame give the frame
abbrev pub PiecesGiveFrame : Type 0
PiecesGiveFrame =
    (frame : List ℕ) (cell_bytes : ℕ) (pieces : List Piece) → 0 < cell_bytes → AreCutFrom frame cell_bytes 0 pieces →
    length pieces ≡ cells_of (length frame) cell_bytes → joined_pieces pieces ≡ frame
