use Rattle.cq_list_trials.proofs.Terms.{arith}
use Rattle.cq_list_trials.proofs.tests.list.cut_in.Goals as goal

pub insert-requires-clause-ahead : goal.insert-requires-clause-ahead
insert-requires-clause-ahead c = c.least_cushion-least.ensures c.max-had.result (omega arith)
