use Rattle.cq_list_trials.proofs.Terms.{IsSeatOf}
use Rattle.cq_list_trials.proofs.tests.ledger.makes_all.Given as goal

abbrev pub invariant-steps : goal.invariant-steps
invariant-steps l = IsSeatOf l.ledger l.seat
