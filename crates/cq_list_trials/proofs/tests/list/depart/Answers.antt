use Rattle.cq_list_trials.proofs.Terms.{arith, rules}
use Rattle.cq_list_trials.proofs.Arrived.{arrived_left, length_left}
use Rattle.cq_list_trials.proofs.tests.list.depart.Goals as goal

pub returns-clause-arrived : goal.returns-clause-arrived
returns-clause-arrived c = search (arith, rules, arrived_left)

pub returns-clause-room : goal.returns-clause-room
returns-clause-room c = search (arith, rules, length_left)
