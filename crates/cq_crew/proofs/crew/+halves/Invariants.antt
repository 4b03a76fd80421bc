use Rattle.cq_crew.proofs.Terms.{◌+◌, ◌*◌}
use Rattle.cq_crew.proofs.crew.+halves.Given as goal

abbrev pub decreases-work_all : goal.decreases-work_all
decreases-work_all g l = 2 * l.count

abbrev pub decreases-lower : goal.decreases-lower
decreases-lower g l = 2 * l.low + 1

abbrev pub decreases-upper : goal.decreases-upper
decreases-upper g l = 2 * l.high + 1
