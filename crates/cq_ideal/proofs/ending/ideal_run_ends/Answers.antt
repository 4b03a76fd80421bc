use Rattle.cq_ideal.proofs.LimitedEnds.{ends, found_end}
use Rattle.cq_ideal.proofs.ending.ideal_run_ends.Goals as goal

pub returns : goal.returns
returns c = record { end = ends; only = λ ms ports n ranks came end is. found_end ms ports ranks came n end is }
