use Rattle.cq_urgency.proofs.Terms.{◌≡◌, ◌+◌, ◌-◌, arith}
use Rattle.cq_urgency.proofs.Spots.{spot_in}
use Rattle.cq_urgency.proofs.output_buffer.spot_of.Goals as goal

pub returns : goal.returns
returns c =
    let next : c.begun-place.result - 1 + 1 ≡ c.begun-place.result = omega arith in
    spot_in c.args.key c.args.blocks.now.blocks c.requires.rising c.requires.filled c.begun-place.result
    (c.begun-place.result - 1) c.cushion.result c.begun-place.ensures next c.cushion.ensures c.block.ensures
