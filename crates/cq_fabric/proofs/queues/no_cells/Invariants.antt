use Rattle.cq_fabric.proofs.Terms.{◌≡◌, [], replicate}
use Rattle.cq_fabric.proofs.queues.no_cells.Given as goal

abbrev pub invariant-ports : goal.invariant-ports
invariant-ports l = l.none.items ≡ replicate l.counter []
