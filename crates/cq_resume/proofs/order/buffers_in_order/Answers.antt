use Rattle.cq_resume.proofs.Terms.{arith, rules, IsBufferedBefore}
use Rattle.cq_resume.proofs.Lanes.{neighbours_decide, urgent_on}
use Rattle.cq_resume.proofs.order.buffers_in_order.Goals as goal

pub returns : goal.returns
returns c = search (arith, rules, neighbours_decide IsBufferedBefore, urgent_on, c.neighbours_hold.ensures)
