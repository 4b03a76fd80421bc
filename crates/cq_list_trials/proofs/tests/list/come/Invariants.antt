use Rattle.cq_list_trials.proofs.Terms.{◌≡◌, ◌+◌}
use Rattle.cq_base.specs.Cells.{ArrivedBefore}
use Rattle.cq_list_trials.proofs.tests.list.come.Given as goal

-- they came in the slots so far
abbrev pub invariant-cells : goal.invariant-cells
invariant-cells l =
    (ArrivedBefore l.slot l.list.cells) × ((l.list.spare + l.slot ≡ 5000) × (l.list.outputs ≡ 3))
