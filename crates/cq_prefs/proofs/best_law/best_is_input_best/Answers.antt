use Rattle.cq_prefs.proofs.LeastFirst.{input_best-best}
use Rattle.cq_prefs.proofs.best_law.best_is_input_best.Goals as goal

pub returns : goal.returns
returns c = input_best-best
