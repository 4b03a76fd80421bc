use Rattle.cq_run.proofs.Terms.{arith, rules, append_assoc}
use Rattle.cq_run.proofs.build.build_logged.Goals as goal

pub returns-clause-writes : goal.returns-clause-writes
returns-clause-writes c = search (arith, rules, append_assoc)
