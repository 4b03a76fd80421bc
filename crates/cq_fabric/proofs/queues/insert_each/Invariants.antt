use Rattle.cq_fabric.proofs.Terms.{cells_in}
use Rattle.cq_fabric.proofs.Offered.{In}
use Rattle.cq_fabric.proofs.queues.insert_each.Given as goal

-- the cells that came to the inputs before this one are in their lists, and the offers have followed
abbrev pub invariant-inputs : goal.invariant-inputs
invariant-inputs l = In l.came (cells_in l.buffers) l.fn.lists l.lists l.offers l.input
