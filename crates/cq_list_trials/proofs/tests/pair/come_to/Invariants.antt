use Rattle.cq_pair.specs.Progress.{IsReached}
use Rattle.cq_list_trials.proofs.tests.pair.come_to.Given as goal

abbrev pub invariant-steps : goal.invariant-steps
invariant-steps l = IsReached l.offers l.core
