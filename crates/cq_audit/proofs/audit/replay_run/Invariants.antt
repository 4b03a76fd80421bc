use Rattle.cq_audit.proofs.Terms.{◌-◌, enough}
use Rattle.cq_audit.proofs.Steps.{Replaying}
use Rattle.cq_audit.proofs.audit.replay_run.Given as goal

abbrev pub invariant-slots : goal.invariant-slots
invariant-slots g l = Replaying g.R.Rank.machine l.schedule.came l.lines l.initial.replay l.slot l.rest l.replay l.note

abbrev pub decreases-slots : goal.decreases-slots
decreases-slots g l = enough l.schedule.came - l.slot
