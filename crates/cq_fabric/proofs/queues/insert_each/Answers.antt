use Rattle.cq_fabric.proofs.Terms.{arith, rules}
use Rattle.cq_fabric.proofs.Offered.{next_comes, one_in, none_in}
use Rattle.cq_fabric.proofs.queues.insert_each.Goals as goal

pub insert_one-requires-clause-comes : goal.insert_one-requires-clause-comes
insert_one-requires-clause-comes c = search (arith, rules, next_comes c.inputs.invariant c.requires.come)

pub inputs-preserved : goal.inputs-preserved
inputs-preserved c = search (arith, rules, one_in c.inputs.invariant, none_in c.inputs.invariant)
