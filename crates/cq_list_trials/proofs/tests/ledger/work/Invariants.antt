use Rattle.cq_list_trials.proofs.Terms.{IsSeatOf}
use Rattle.cq_list_trials.proofs.tests.ledger.work.Given as goal

abbrev pub invariant-turns : goal.invariant-turns
invariant-turns l = IsSeatOf l.ledger l.seat
