use Rattle.cq_simulate.proofs.Terms.{◌-◌, true, length, map}
use Rattle.cq_simulate.proofs.Steps.{Crossing, over_by, IsFree}
use Rattle.cq_simulate.proofs.fabric_run.run_slots.Given as goal

abbrev pub invariant-slots : goal.invariant-slots
invariant-slots g l = record {
  runs : Crossing true (map g.R.Rank.machine l.initial.engine.fixed) l.schedule.came l.initial.engine l.initial.sent
      l.initial.note (over_by l.schedule.came l.initial.engine.next) l.slot
      (over_by l.schedule.came l.initial.engine.next - l.slot) l.engine l.sent l.note;
  free : IsFree (length l.initial.engine.fixed) l.leaving;
}

abbrev pub decreases-slots : goal.decreases-slots
decreases-slots g l = over_by l.schedule.came l.initial.engine.next - l.slot
