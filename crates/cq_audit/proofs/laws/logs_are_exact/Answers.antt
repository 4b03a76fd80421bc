use Rattle.cq_audit.proofs.LogLines.{log_in_order}
use Rattle.cq_audit.proofs.laws.logs_are_exact.Goals as goal

pub returns-clause-in_order : goal.returns-clause-in_order
returns-clause-in_order c = log_in_order
