use Rattle.cq_simulate.proofs.Terms.{◌-◌, ◌≤◌, false, map}
use Rattle.cq_simulate.proofs.Steps.{Crossing}
use Rattle.cq_simulate.proofs.parted_run.run_before.Given as goal

abbrev pub invariant-slots : goal.invariant-slots
invariant-slots g l =
    record {
      crossing : Crossing false (map g.R.Rank.machine l.initial.engine.fixed) l.schedule.came l.initial.engine
          l.initial.sent l.initial.note l.last l.slot (l.last - l.slot) l.engine l.sent l.note;
      before : l.slot ≤ l.last;
    }

abbrev pub decreases-slots : goal.decreases-slots
decreases-slots g l = l.last - l.slot
