use Rattle.std.proofs.lemmas.Grind.{common_steps}
use Rattle.std.proofs.Common.{arith, rules}
use Rattle.cq_frame.proofs.frame.packet_code_point.Goals as goal

pub returns-then-bytes-at : goal.returns-then-bytes-at
returns-then-bytes-at c = search rules

pub returns : goal.returns
returns c = grind (arith, common_steps)
