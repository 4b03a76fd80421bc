use Rattle.cq_list.proofs.Terms.{rules, arith, [], refl}
use Rattle.cq_list.proofs.Sums.{both_parts}
use Rattle.cq_list.proofs.Runs.{sum_has}
use Rattle.cq_list.proofs.summed_blocks.SummedBlocks.remove.Goals as goal

pub subtract-requires : goal.subtract-requires
subtract-requires c =
    let both = both_parts {xs = []} {ys = c.unwrap-gone.result} refl in
    search (arith, rules, sum_has c.self.invariant c.self.view_is, both)
