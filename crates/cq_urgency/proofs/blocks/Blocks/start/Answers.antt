use Rattle.cq_urgency.proofs.Terms.{ap, arith, common_steps, cases_lt, BlocksView}
use Rattle.cq_urgency.proofs.Placed.{kept, started}
use Rattle.cq_urgency.proofs.blocks.Blocks.start.Goals as goal

pub invariant_of-self : goal.invariant_of-self
invariant_of-self c =
    let k = started (kept c.self.invariant.0 c.self.view_is) c.requires.none c.put_block-number.ensures.comes
    c.push_back_reserved.ensures.items in
    let view = ap (λ (v : BlocksView). v.most) c.self.view_is in (k.placed, grind (arith, common_steps, cases_lt))
