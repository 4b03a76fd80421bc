use Rattle.std.proofs.Common.{◌≡◌, ◌+◌, length}
use Rattle.cq_base.specs.Cells.{ArrivedBefore}
use Rattle.cq_trial_kit.proofs.cells.list_of.Given as goal

-- the cells of the slots before this one are in, and there is room for the rest
abbrev pub invariant-cells : goal.invariant-cells
invariant-cells l = record {
  outputs : l.list.outputs ≡ l.outputs;
  spare : l.list.spare + l.slot ≡ length l.cells;
  len : length l.list.cells ≡ l.slot;
  arrived : ArrivedBefore l.slot l.list.cells;
}
