use Rattle.cq_resume.proofs.Terms.{FnReturnsAtPair, AllAdjacentBelow, true}
use Rattle.cq_resume.proofs.neighbours.neighbours_hold.Given as goal

abbrev pub invariant-places : goal.invariant-places
invariant-places g l = AllAdjacentBelow (λ x y. FnReturnsAtPair g.F.Fn l.holds x y true) l.items l.at
