use Rattle.cq_resume.proofs.Terms.{arith, rules, IsNoLaterInput}
use Rattle.cq_resume.proofs.Lanes.{neighbours_decide}
use Rattle.cq_resume.proofs.order.inputs_in_order.Goals as goal

pub returns : goal.returns
returns c = search (arith, rules, neighbours_decide IsNoLaterInput, c.neighbours_hold.ensures)
