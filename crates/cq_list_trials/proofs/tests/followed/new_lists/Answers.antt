use Rattle.cq_list_trials.proofs.Terms.{arith, rules}
use Rattle.cq_list_trials.proofs.tests.followed.new_lists.Goals as goal

pub returns-clause-own : goal.returns-clause-own
returns-clause-own c i none l = search (arith, rules, c.loop.invariant.cells, c.loop.invariant.room)
