-- The newest cell goes into a list.
use Rattle.std.specs.Prelude.{◌≡◌, ◌+◌, ◌<◌, length}
use Rattle.cq_base.specs.declared.cell.Queued.{Queued}
use Rattle.cq_base.specs.Cells.{ArrivedBefore}
use Rattle.cq_list.specs.InputList.{Waiting}

-- there is room for it, it is for an output, and it is newer than all others
pub record IsNewest (queued : Queued) (list : Waiting) : Type 0 where
  pub spare : 0 < list.spare
  pub in_range : queued.cell.output < list.outputs
  pub newest : ArrivedBefore queued.key.slot list.cells

-- it is in
pub record HasArrived (queued : Queued) (old new : Waiting) : Type 0 where
  pub len : length new.cells ≡ length old.cells + 1
  pub spare : new.spare + 1 ≡ old.spare
  pub outputs : new.outputs ≡ old.outputs
  pub arrived : ArrivedBefore (queued.key.slot + 1) new.cells
