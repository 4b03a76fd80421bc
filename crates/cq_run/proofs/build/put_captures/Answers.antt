use Rattle.cq_run.proofs.Terms.{arith, rules, append_assoc, drop_more, common_steps}
use Rattle.cq_run.proofs.build.put_captures.Goals as goal

pub ports-preserved : goal.ports-preserved
ports-preserved c = search (arith, rules, append_assoc, drop_more, common_steps)
