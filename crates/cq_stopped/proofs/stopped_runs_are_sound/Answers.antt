use Rattle.cq_stopped.proofs.Together.{stopped_runs_are_sound}
use Rattle.cq_stopped.proofs.stopped_runs_are_sound.Goals as goal

pub returns : goal.returns
returns c = stopped_runs_are_sound
