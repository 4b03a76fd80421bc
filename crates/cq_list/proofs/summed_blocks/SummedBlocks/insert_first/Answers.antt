use Rattle.cq_list.proofs.Terms.{rules, arith, length-append}
use Rattle.cq_list.proofs.Runs.{came_first, has_room}
use Rattle.cq_list.proofs.summed_blocks.SummedBlocks.insert_first.Goals as goal

pub add-requires : goal.add-requires
add-requires c =
    search (arith, rules, has_room c.open_first-short.ensures.sums 0, c.open_first-short.ensures.sums.enough)

pub invariant_of-self : goal.invariant_of-self
invariant_of-self c =
    let runs = came_first c.open_first-short.ensures.sums c.open_first-short.ensures.some
    c.open_first-short.ensures.most c.index_mut.ensures.value c.add.ensures in
    search (arith, rules, runs, length-append, c.push_front_reserved.ensures.items)
