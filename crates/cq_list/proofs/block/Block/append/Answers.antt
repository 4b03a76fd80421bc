use Rattle.cq_list.proofs.Terms.{rules, append_assoc, arith, insert_end, take_more, slice_get_within, get_or_from_slice_get}
use Rattle.cq_list.proofs.block.Block.append.Goals as goal

pub moved-preserved : goal.moved-preserved
moved-preserved c =
    let next = take_more c.args.more.now c.moved.place c.at.result in
    search (arith, rules, insert_end, append_assoc, next, slice_get_within, get_or_from_slice_get)
