use Rattle.cq_resume.proofs.Terms.{arith, rules, IsTransferBefore}
use Rattle.cq_resume.proofs.Lanes.{neighbours_decide}
use Rattle.cq_resume.proofs.order.moved_in_order.Goals as goal

pub returns : goal.returns
returns c = neighbours_decide IsTransferBefore _ (search (arith, rules)) c.neighbours_hold.ensures (search rules)
