use Rattle.cq_urgency.proofs.Terms.{arith}
use Rattle.cq_urgency.proofs.Placed.{free_there}
use Rattle.cq_urgency.proofs.blocks.put_block.Goals as goal

pub index_mut-requires : goal.index_mut-requires
index_mut-requires c =
    let there = free_there c.args.pool.now.items c.args.free.now.items _ c.in-Some.number c.in-Some.ensures.items
    c.requires.within in omega arith
