use Rattle.cq_ledger.proofs.CoreState.{shows_proposals}
use Rattle.cq_ledger.proofs.laws.rule_shows_proposals.Goals as goal

pub returns : goal.returns
returns c = shows_proposals
