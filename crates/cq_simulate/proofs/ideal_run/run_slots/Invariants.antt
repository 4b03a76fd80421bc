use Rattle.cq_simulate.proofs.Terms.{◌-◌, length, map, enough}
use Rattle.cq_simulate.proofs.Steps.{IsFree, Running}
use Rattle.cq_simulate.proofs.ideal_run.run_slots.Given as goal

abbrev pub invariant-slots : goal.invariant-slots
invariant-slots g l = record {
  runs : Running (map g.R.Rank.machine l.initial.ideal.fixed) l.schedule.came l.initial.ideal l.initial.sent l.slot
      (enough l.schedule.came - l.slot) l.ideal l.sent;
  free : IsFree (length l.initial.ideal.fixed) l.leaving;
}

abbrev pub decreases-slots : goal.decreases-slots
decreases-slots g l = enough l.schedule.came - l.slot
