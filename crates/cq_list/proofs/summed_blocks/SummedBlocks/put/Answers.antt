use Rattle.cq_list.proofs.Terms.{arith, rules}
use Rattle.cq_list.proofs.Sums.{both_put}
use Rattle.cq_list.proofs.Runs.{sum_room, summed_more}
use Rattle.cq_list.proofs.summed_blocks.SummedBlocks.put.Goals as goal

pub put-requires-clause-room : goal.put-requires-clause-room
put-requires-clause-room c = search (arith, rules, sum_room)

pub invariant_of-self : goal.invariant_of-self
invariant_of-self c = search (arith, rules, summed_more, both_put)
