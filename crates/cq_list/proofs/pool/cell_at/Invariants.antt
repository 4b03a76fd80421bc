use Rattle.cq_list.proofs.Terms.{get}
use Rattle.cq_list.proofs.Walk.{HasReached}
use Rattle.cq_list.proofs.pool.cell_at.Given as goal

abbrev pub invariant-nodes : goal.invariant-nodes
invariant-nodes l = HasReached (get l.nodes) l.fn.queue l.counter l.place
