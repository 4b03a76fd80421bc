use Rattle.cq_list.proofs.Terms.{◌≡◌, [], replicate}
use Rattle.cq_list.proofs.pool.no_fingers.Given as goal

abbrev pub invariant-queues : goal.invariant-queues
invariant-queues l = l.fingers.items ≡ replicate l.counter []
