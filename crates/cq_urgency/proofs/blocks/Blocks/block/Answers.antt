use Rattle.cq_urgency.proofs.Terms.{arith, rules}
use Rattle.cq_urgency.proofs.Placed.{kept, in_pool, read_is}
use Rattle.cq_urgency.proofs.blocks.Blocks.block.Goals as goal

pub index-requires : goal.index-requires
index-requires c = search (arith, rules, in_pool (kept c.self.invariant.0 c.self.view_is))

pub returns : goal.returns
returns c = search (arith, rules, read_is, kept c.self.invariant.0 c.self.view_is)
