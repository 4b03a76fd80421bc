use Rattle.cq_list.proofs.Terms.{arith}
use Rattle.cq_list.proofs.BlockWalk.{ahead_fits, ahead_on, nth_found}
use Rattle.cq_list.proofs.places.find_in_run.Goals as goal

pub with_block-next-requires : goal.with_block-next-requires
with_block-next-requires c =
    let ahead = c.each.invariant.ahead in
    let fits = ahead_fits (ahead_on c.args.blocks.now.blocks c.each.block (omega arith) c.at-places.ensures ahead) in
    let bound = c.requires.fits in record { fits = omega arith; few = omega arith }

pub returns-then-number-next : goal.returns-then-number-next
returns-then-number-next c =
    let found = nth_found c.args.blocks.now.blocks c.each.block (omega arith) c.at-places.ensures c.each.invariant.ahead
    c.each.invariant.late (omega arith) c.nth_in.ensures.place c.nth_in.ensures.block c.nth_in.ensures.within in
    record { place = found.0; spot = found.1 }

pub each-preserved : goal.each-preserved
each-preserved c =
    let on = ahead_on c.args.blocks.now.blocks c.each.block (omega arith) c.at-places.ensures c.each.invariant.ahead in
    record { ahead = rw (c.with_block-next.ensures.places, c.with_block-next.ensures.own) on; late = omega arith }
