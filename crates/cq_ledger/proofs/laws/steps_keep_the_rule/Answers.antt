use Rattle.cq_ledger.proofs.Seats.{start-keeps}
use Rattle.cq_ledger.proofs.laws.steps_keep_the_rule.Goals as goal

pub returns-clause-start : goal.returns-clause-start
returns-clause-start c = start-keeps
