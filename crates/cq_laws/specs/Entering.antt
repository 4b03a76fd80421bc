-- What a list of an input asks of a cell that comes to it, and a buffer of a cell that crosses to it.
use Rattle.std.specs.Prelude.{◌≡◌, ℕ, ◌<◌, length, Some}
use Rattle.cq_base.specs.Cells.{HasOtherKey, MoreUrgentAhead, first_for}
use Rattle.cq_base.specs.declared.cell.Queued.{Queued}
use Rattle.cq_prefs.specs.FirstCells.{FirstKeysDiffer}
use Rattle.cq_laws.specs.Fabric.{Fabric, buffer, cushion_of, input}

-- the cell goes into the list of input i: that is one of the inputs, the cell is for one of the outputs, its key is
-- new there, and the more urgent cells for its output stand below its cushion
pub record FitsList (f : Fabric) (i : ℕ) (c : Queued) : Type 0 where
  pub inside : i < length f.inputs
  pub output : c.cell.output < length f.inputs
  pub other_key : HasOtherKey c (input f i)
  pub ahead : MoreUrgentAhead (cushion_of f c) c (input f i)

-- cells can cross: first cells for one output have different keys in different lists, and none has the key of a cell
-- in the output's buffer
pub record FirstsCanCross (f : Fabric) : Type 0 where
  pub differ : FirstKeysDiffer f.inputs
  pub keys : (i j : ℕ) (c : Queued) → first_for j (input f i) ≡ Some c → HasOtherKey c (buffer f j)
