use Rattle.cq_run.proofs.Terms.{length}
use Rattle.cq_run.proofs.ahead.+stream_from.Given as goal

abbrev pub decreases-stream_from : goal.decreases-stream_from
decreases-stream_from g l = length l.rows.now
