use Rattle.cq_list.proofs.Terms.{get, has_id}
use Rattle.cq_list.proofs.Walk.{HasPassed}
use Rattle.cq_list.proofs.pool.count_to.Given as goal

-- the cells so far have other ids
abbrev pub invariant-nodes : goal.invariant-nodes
invariant-nodes l = HasPassed (get l.nodes) l.queue (has_id l.id) l.count l.place
