use Rattle.cq_run.proofs.Terms.{arith, common_steps}
use Rattle.cq_run.proofs.Planned.{at_log, audit_judged}
use Rattle.cq_run.proofs.Reached.{given_so, read_ends, exit_is}
use Rattle.cq_run.specs.declared.judge.Asked.TheVariants as asked
use Rattle.cq_run.proofs.judge.audit.Goals as goal

pub returns-in_err-trace : goal.returns-in_err-trace
returns-in_err-trace g c = λ config start is. rw (exit_is _ c.from_residual.ensures.1)
    (read_ends _ g.met.F.Files.lasts_unbegun (given_so asked.Audit is) c.read_text.ensures.kept
    (λ r. c.in_err-trace.ensures.judges) (λ asked u. (tt, u.1)))

pub returns-in_err-log : goal.returns-in_err-log
returns-in_err-log g c = λ config start is.
    let log = at_log is g.met.F.Files.lasts_unbegun c.read_text.ensures.kept c.in_ok-trace.ensures.judges in
    rw (exit_is _ c.from_residual-in_err-log.ensures.1) (read_ends _ g.met.F.Files.lasts_unbegun log
    c.read_text-2.ensures.kept
    (λ r. c.in_err-log.ensures.judges) (λ asked u. (tt, u.1)))

pub returns : goal.returns
returns g c = λ config start is.
    let told = rw (c.as_slice.ensures, c.as_slice-2.ensures) at c.audit_texts-done.ensures in
    audit_judged is g.met.F.Files.lasts_unbegun c.read_text.ensures.kept c.in_ok-trace.ensures.judges
    c.read_text-2.ensures.kept c.in_ok-log.ensures.judges _ (grind (arith, common_steps)) (grind (arith, common_steps))
    (grind (arith, common_steps))
