use Rattle.cq_list.proofs.Terms.{rules, arith}
use Rattle.cq_list.proofs.Counts.{counts_insert}
use Rattle.cq_list.proofs.block.Block.insert.Goals as goal

pub invariant_of-self : goal.invariant_of-self
invariant_of-self c = search (arith, rules, counts_insert)
