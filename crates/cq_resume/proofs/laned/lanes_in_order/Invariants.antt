use Rattle.cq_resume.proofs.Lanes.{Lanes}
use Rattle.cq_resume.proofs.laned.lanes_in_order.Given as goal

abbrev pub invariant-items : goal.invariant-items
invariant-items g l = Lanes g.T.Laned.lane_of g.T.Laned.stands_before l.items l.item-index l.last
