use Rattle.cq_list.proofs.Terms.{rules, arith}
use Rattle.cq_list.proofs.Runs.{has_room}
use Rattle.cq_list.proofs.summed_blocks.SummedBlocks.insert.Goals as goal

pub add-requires : goal.add-requires
add-requires c =
    let enough = c.open_run.ensures.sums.enough in search (arith, rules, has_room c.open_run.ensures.sums, enough)
