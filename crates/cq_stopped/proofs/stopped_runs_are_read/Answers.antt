use Rattle.cq_stopped.proofs.Together.{stopped_runs_are_read}
use Rattle.cq_stopped.proofs.stopped_runs_are_read.Goals as goal

pub returns : goal.returns
returns c = stopped_runs_are_read
