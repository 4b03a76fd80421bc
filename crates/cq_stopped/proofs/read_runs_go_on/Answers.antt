use Rattle.cq_stopped.proofs.Together.{read_runs_go_on}
use Rattle.cq_stopped.proofs.read_runs_go_on.Goals as goal

pub returns : goal.returns
returns c = read_runs_go_on
