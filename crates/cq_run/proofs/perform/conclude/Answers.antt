use Rattle.cq_run.proofs.Terms.{arith, common_steps}
use Rattle.cq_run.proofs.Ends.{cut_short}
use Rattle.cq_run.proofs.Reached.{exit_is}
use Rattle.cq_run.proofs.perform.conclude.Goals as goal

pub returns-in-Err-clause-ends : goal.returns-in-Err-clause-ends
returns-in-Err-clause-ends g c = λ pace command start r is. grind (arith, common_steps, is.judges r)

pub returns-in_err-perform-in-Ok-clause-ends : goal.returns-in_err-perform-in-Ok-clause-ends
returns-in_err-perform-in-Ok-clause-ends g c = λ pace command start r is.
    let planned = rw c.in-Ok.is at is in
    rw (exit_is _ c.from_residual.ensures.1) (cut_short r _ planned _ _ _ _ _ g.met.F.Files.lasts
    (g.met.F.Files.unbegun_keeps _ _ planned.kept) c.in_err-perform-in-Ok.ensures.cut)

pub returns-in_ok-perform-in-Ok-clause-ends : goal.returns-in_ok-perform-in-Ok-clause-ends
returns-in_ok-perform-in-Ok-clause-ends g c = λ pace command start r is.
    let planned = rw c.in-Ok.is at is in grind (arith, common_steps, planned.judges r)
