use Rattle.cq_list_trials.proofs.Terms.{IsSeatOf}
use Rattle.cq_list_trials.proofs.tests.ledger.propose_all.Given as goal

abbrev pub invariant-proposals : goal.invariant-proposals
invariant-proposals l = IsSeatOf l.ledger l.seat
