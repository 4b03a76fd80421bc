use Rattle.cq_audit.proofs.Terms.{arith, common_steps}
use Rattle.cq_audit.proofs.LogLines.{one_log_line}
use Rattle.cq_audit.proofs.transfer.next_transfer.Goals as goal

pub returns-else-may_come-clause-none : goal.returns-else-may_come-clause-none
returns-else-may_come-clause-none c = grind (arith, common_steps, one_log_line)
