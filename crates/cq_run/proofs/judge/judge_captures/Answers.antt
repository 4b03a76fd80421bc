use Rattle.cq_run.proofs.Planned.{ideal_judged, part_judged, resume_judged, run_judged}
use Rattle.cq_run.proofs.Reached.{given_so, read_ends, exit_is}
use Rattle.cq_run.specs.declared.judge.Asked.TheVariants as asked
use Rattle.cq_run.proofs.judge.judge_captures.Goals as goal

pub returns-in-Ideal : goal.returns-in-Ideal
returns-in-Ideal g c = λ config start is. rw c.in-Ideal.is
    (ideal_judged is _ c.send_ideally.ensures.ideal c.send_ideally.ensures.refused)

pub returns-in-Run : goal.returns-in-Run
returns-in-Run g c = λ config start is. rw c.in-Run.is
    (run_judged is _ c.cross.ensures.crossing c.cross.ensures.refused)

pub returns-in-Audit : goal.returns-in-Audit
returns-in-Audit g c = λ config start is. rw c.in-Audit.is
    (c.audit-work.ensures config start (rw (← c.as_slice.ensures) at is))

pub returns-in-Part : goal.returns-in-Part
returns-in-Part g c = λ config start is. rw c.in-Part.is
    (part_judged is _ _ c.part.ensures.are_given c.part.ensures.text c.part.ensures.refused)

pub returns-in_ok-text-in-Resume : goal.returns-in_ok-text-in-Resume
returns-in_ok-text-in-Resume g c = λ config start is. rw c.in-Resume.is (resume_judged is _ g.met.F.Files.lasts_unbegun
    c.read_stopped.ensures.kept c.in_ok-text-in-Resume.ensures.judges _ c.go_on.ensures.resuming
    c.go_on.ensures.refused)

pub returns-in_err-text-in-Resume : goal.returns-in_err-text-in-Resume
returns-in_err-text-in-Resume g c = λ config start is. rw (c.in-Resume.is, exit_is _ c.from_residual.ensures.1)
    (read_ends _ g.met.F.Files.lasts_unbegun (given_so (asked.Resume _) is) c.read_stopped.ensures.kept
    (λ r. c.in_err-text-in-Resume.ensures.judges) (λ asked u. (tt, u.1)))
