use Rattle.cq_list.proofs.Terms.{ap, length, arith, rules}
use Rattle.cq_list.proofs.Counts.{counts_remove}
use Rattle.cq_list.proofs.block.Block.remove.Goals as goal

pub invariant_of-self : goal.invariant_of-self
invariant_of-self c =
    let as_long = ap length c.self.view_is in search (arith, rules, counts_remove, c.remove-output.ensures.items)
