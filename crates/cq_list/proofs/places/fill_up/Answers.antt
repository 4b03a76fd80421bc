use Rattle.cq_list.proofs.Terms.{rules, [], ◌<◌, ◌+◌, length, ap, get_or, arith}
use Rattle.cq_list.proofs.Blocks.{joined_in, pulled_in, spot_joined, spot_pulled}
use Rattle.cq_list.proofs.Filled.{filled_joined, filled_pulled, longer_joined, longer_pulled}
use Rattle.cq_list.proofs.places.fill_up.Goals as goal

pub returns-then-many-le-HALF_PLACES : goal.returns-then-many-le-HALF_PLACES
returns-then-many-le-HALF_PLACES c =
    let inside : c.args.spot.block + 1 < length c.args.blocks.now.blocks = omega arith in
    rw c.join_next.ensures.joined (search (rules, joined_in, filled_joined, spot_joined, longer_joined))

pub returns-else-many-le-HALF_PLACES : goal.returns-else-many-le-HALF_PLACES
returns-else-many-le-HALF_PLACES c =
    let inside : c.args.spot.block + 1 < length c.args.blocks.now.blocks = omega arith in
    let read = ap length c.at-2.ensures in
    let long : 32 < length (get_or c.args.blocks.now.blocks (c.args.spot.block + 1) []) = omega arith in
    rw c.pull_next.ensures.pulled (search (rules, pulled_in, filled_pulled, spot_pulled, longer_pulled))
