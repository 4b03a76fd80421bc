use Rattle.cq_list_trials.proofs.Terms.{◌≡◌, ◌+◌, length, ArrivedBefore}
use Rattle.cq_list_trials.proofs.tests.opposed.list_for.Given as goal

-- the cells for the outputs before this one are in
abbrev pub invariant-cells : goal.invariant-cells
invariant-cells l = (l.list.outputs ≡ l.outputs) × (l.list.spare + l.output ≡ l.wanted)
    × (length l.list.cells ≡ l.output) × ArrivedBefore l.output l.list.cells
