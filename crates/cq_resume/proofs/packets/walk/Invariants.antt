use Rattle.cq_resume.proofs.Terms.{◌-◌, coming}
use Rattle.cq_resume.proofs.Coming.{Walked}
use Rattle.cq_resume.proofs.packets.walk.Given as goal

-- the cells from this slot on are left
abbrev pub invariant-arrivals : goal.invariant-arrivals
invariant-arrivals l = Walked l.names l.limits (coming l.input 0 l.next l.schedule.came)
    (coming l.input l.from l.next l.schedule.came) l.mark l.initial.refused l.refused

abbrev pub decreases-arrivals : goal.decreases-arrivals
decreases-arrivals l = l.next - l.from
