-- Only proofs use this.
-- The pieces in which a line is put.
use Rattle.std.specs.Prelude.{ℕ, List, [], ◌∷◌, ◌++◌}
use Rattle.cq_base.specs.Decimal.{decimal}
use Rattle.cq_run.specs.declared.say.Piece.{Piece}
use Rattle.cq_run.specs.declared.say.Piece.TheVariants.{Number, Text}

-- what a piece says
abbrev pub piece_text : Piece → List ℕ
piece_text (Text text) = text.now
piece_text (Number n) = decimal n

-- what several pieces say, one behind the other
abbrev pub joined : List Piece → List ℕ
joined [] = []
joined (piece ∷ []) = piece_text piece
joined (piece ∷ next ∷ pieces) = piece_text piece ++ joined (next ∷ pieces)
