use Rattle.cq_parts.proofs.Whole.{parts_are_the_run}
use Rattle.cq_parts.proofs.parts_are_the_run.Goals as goal

pub returns : goal.returns
returns c = parts_are_the_run
