use Rattle.cq_run.proofs.Crossed.{resumed_by}
use Rattle.cq_run.proofs.Terms.{refl}
use Rattle.cq_run.proofs.parting.resume_by_schedule.Goals as goal

pub returns-clause-resumed : goal.returns-clause-resumed
returns-clause-resumed g c = λ captures is given. resumed_by c.args.tables.now captures _ is c.args.text _
    c.in_ok-taken.ensures.read _ c.in_ok-run.ensures.run given _ refl
