use Rattle.cq_audit.proofs.Terms.{rules, arith, err_from_is_err_and, common_steps}
use Rattle.cq_audit.proofs.Slots.{ready}
use Rattle.cq_audit.proofs.LogLines.{log_in_order}
use Rattle.cq_audit.proofs.audit.audit_log.Goals as goal

pub returns-in_err-lines-clause-no : goal.returns-in_err-lines-clause-no
returns-in_err-lines-clause-no c = search (arith, rules, err_from_is_err_and)

pub replay_run-requires : goal.replay_run-requires
replay_run-requires c = search (arith, rules, ready, log_in_order)

pub returns : goal.returns
returns c = grind (arith, common_steps)
