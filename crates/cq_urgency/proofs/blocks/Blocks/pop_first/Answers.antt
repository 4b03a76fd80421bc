use Rattle.cq_urgency.proofs.Terms.{length-drop, length-set, arith, rules}
use Rattle.cq_urgency.proofs.Placed.{kept, in_pool, read_is, popped}
use Rattle.cq_urgency.proofs.blocks.Blocks.pop_first.Goals as goal

pub invariant_of-self : goal.invariant_of-self
invariant_of-self c = search (arith, rules, popped (kept c.self.invariant.0 c.self.view_is), length-set)

pub returns-clause-left : goal.returns-clause-left
returns-clause-left c =
    let w = kept c.self.invariant.0 c.self.view_is in search (arith, rules, w, read_is w, length-drop)

pub returns-clause-blocks : goal.returns-clause-blocks
returns-clause-blocks c =
    let w = kept c.self.invariant.0 c.self.view_is in search (arith, rules, w, in_pool w, read_is w, popped w)
