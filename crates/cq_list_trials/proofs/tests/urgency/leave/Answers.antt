use Rattle.cq_list_trials.proofs.Terms.{rules, arith}
use Rattle.cq_list_trials.proofs.Arrived.{arrived_popped}
use Rattle.cq_list_trials.proofs.tests.urgency.leave.Goals as goal

pub returns-clause-arrived : goal.returns-clause-arrived
returns-clause-arrived c = search (arith, rules, arrived_popped)
