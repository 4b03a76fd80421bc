use Rattle.cq_run.proofs.Audits.{runs_audited}
use Rattle.cq_run.proofs.laws.runs_are_audited.Goals as goal

pub returns : goal.returns
returns c = runs_audited
