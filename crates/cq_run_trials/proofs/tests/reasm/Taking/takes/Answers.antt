use Rattle.cq_base.proofs.Library.{arith, get_or-map, map-set, rules}
use Rattle.cq_run_trials.proofs.tests.reasm.Taking.takes.Goals as goal

pub invariant_of-self : goal.invariant_of-self
invariant_of-self c =
    let was = c.self.invariant in
    let left = (c.in-Ok.ensures).left in search (arith, rules, map-set, get_or-map, was, left)
