use Rattle.cq_list.proofs.Terms.{rules, arith, length, take_all}
use Rattle.cq_list.proofs.Sums.{ahead_next, all_ahead, length_added}
use Rattle.cq_list.proofs.places.spot_in.Goals as goal

pub each-preserved : goal.each-preserved
each-preserved c = search (arith, rules, ahead_next length length_added)

-- all blocks were passed, and with them the run
pub unreachable-requires : goal.unreachable-requires
unreachable-requires c =
    search (arith, rules, all_ahead length length_added c.args.blocks.now.blocks, take_all)
