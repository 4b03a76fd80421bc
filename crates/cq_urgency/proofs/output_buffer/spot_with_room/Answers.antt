use Rattle.cq_urgency.proofs.Terms.{rules, ◌≡◌, ◌-◌, length, arith, block_at, most_cells}
use Rattle.cq_urgency.proofs.Flattened.{flattened-halved}
use Rattle.cq_urgency.proofs.Spots.{filled_halved, in_back_half, in_front_half}
use Rattle.cq_urgency.proofs.output_buffer.spot_with_room.Goals as goal
use Rattle.cq_urgency.proofs.output_buffer.spot_with_room.Goals.{After-split-back}

-- the block was full
full : (c : After-split-back) → length (block_at c.args.blocks.now.blocks c.spot_of-spot.result.block) ≡ most_cells
full c = search (arith, rules)

pub returns-then-spot-le-HALF_CELLS : goal.returns-then-spot-le-HALF_CELLS
returns-then-spot-le-HALF_CELLS c =
    let full = full (goal.at.returns-then-spot-le-HALF_CELLS c).After-split-back in
    let half = in_front_half _ _ c.spot_of-spot.ensures.inside full c.split-back.ensures.blocks
    c.spot_of-spot.ensures in
    search (arith, rules, full, half, flattened-halved, filled_halved)

pub returns : goal.returns
returns c =
    let full = full (goal.at.returns c).After-split-back in
    let half = in_back_half _ _ c.spot_of-spot.ensures.inside full c.split-back.ensures.blocks c.spot_of-spot.ensures
    {p = c.spot_of-spot.result.within - 32} c.split-back.ensures.back (omega arith) in
    search (arith, rules, full, half, flattened-halved, filled_halved)
