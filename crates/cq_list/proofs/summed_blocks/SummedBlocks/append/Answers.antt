use Rattle.cq_list.proofs.Terms.{arith, rules}
use Rattle.cq_list.proofs.Sums.{both_parts}
use Rattle.cq_list.proofs.Runs.{sum_room, summed_more}
use Rattle.cq_list.proofs.summed_blocks.SummedBlocks.append.Goals as goal

pub add-requires : goal.add-requires
add-requires c = search (arith, rules, sum_room)

pub invariant_of-self : goal.invariant_of-self
invariant_of-self c = search (arith, rules, summed_more, both_parts)
