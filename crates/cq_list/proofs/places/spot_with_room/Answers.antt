use Rattle.cq_list.proofs.Terms.{rules, arith}
use Rattle.cq_list.proofs.Filled.{IsHalved, halves_are}
use Rattle.cq_list.proofs.places.spot_with_room.Goals as goal
use Rattle.cq_list.proofs.places.spot_with_room.Goals.{After-split}

halves : (c : After-split) → IsHalved c.args.blocks.now.blocks c.split.new.self.blocks c.args.spot.block
halves c = halves_are _ _ _ c.requires.spot.inside c.requires.filled (search (arith, rules)) c.split.ensures.blocks

pub returns-then-spot-lt-HALF_PLACES : goal.returns-then-spot-lt-HALF_PLACES
returns-then-spot-lt-HALF_PLACES c =
    let halves = halves (goal.at.returns-then-spot-lt-HALF_PLACES c).After-split in
    search (arith, rules, halves, halves.in_front)

pub returns : goal.returns
returns c = let halves = halves (goal.at.returns c).After-split in search (arith, rules, halves, halves.in_back)
