use Rattle.cq_ideal.proofs.Terms.{rules, arith, All-set, length_put}
use Rattle.cq_ideal.proofs.Changed.{item_inside, seen_at}
use Rattle.cq_ideal.proofs.queues.Queues.put.Goals as goal

pub invariant_of-self : goal.invariant_of-self
invariant_of-self c = search (arith, rules, seen_at, item_inside, length_put, All-set)
