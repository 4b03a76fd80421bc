use Rattle.cq_base.proofs.Terms.{arith, rules}
use Rattle.cq_base.proofs.Places.{put_are}
use Rattle.cq_base.proofs.arrivals.Arrivals.set.Goals as goal

pub invariant_of-self : goal.invariant_of-self
invariant_of-self c = search (arith, rules, put_are)
