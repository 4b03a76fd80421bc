use Rattle.std.proofs.Common.{rules}
use Rattle.cq_frame.proofs.frame.number_at.Goals as goal

pub returns : goal.returns
returns c = search rules
