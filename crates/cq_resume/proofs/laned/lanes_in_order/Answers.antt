use Rattle.cq_resume.proofs.Terms.{arith, rules, length}
use Rattle.cq_resume.proofs.Lanes.{lanes_next, lanes_stop}
use Rattle.cq_resume.proofs.laned.lanes_in_order.Goals as goal

pub items-preserved : goal.items-preserved
items-preserved g c =
    search (arith, rules, lanes_next _ _ c.items.invariant (length c.args.last.now), g.T.Laned.goes_on)

pub returns-then-not-may_follow : goal.returns-then-not-may_follow
returns-then-not-may_follow g c = search (arith, rules, lanes_stop _ _ c.items.invariant (length c.args.last.now))
