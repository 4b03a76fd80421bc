use Rattle.cq_laws.proofs.WholeRuns.{empty_together}
use Rattle.cq_laws.proofs.emulation.empty_together.Goals as goal

pub returns : goal.returns
returns c = empty_together
