use Rattle.cq_audit.proofs.Terms.{arith, rules, length}
use Rattle.cq_audit.proofs.replay.go_by.Goals as goal

pub cross-requires-clause-lines : goal.cross-requires-clause-lines
cross-requires-clause-lines c = search (arith, rules, c.part.ensures.parted (length c.args.queues.now.inputs))

pub returns-in-Ok-clause-gone_by : goal.returns-in-Ok-clause-gone_by
returns-in-Ok-clause-gone_by c = search (arith, rules, c.part.ensures.parted (length c.args.queues.now.inputs))

pub returns-in-Err-clause-fault : goal.returns-in-Err-clause-fault
returns-in-Err-clause-fault c = search (arith, rules, c.part.ensures.parted (length c.args.queues.now.inputs))
