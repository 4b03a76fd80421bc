use Rattle.cq_slot_trials.proofs.Terms.{map}
use Rattle.cq_slot_trials.specs.ThreePorts.{IsAt}
use Rattle.cq_slot_trials.proofs.tests.ideal.run.Given as goal

abbrev pub invariant-slots : goal.invariant-slots
invariant-slots g l = IsAt (map g.R.Rank.machine l.ideal.fixed) l.coming-index l.ideal
