use Rattle.cq_urgency.proofs.Terms.{arith, common_steps, rules, ◌≡◌, length, get_or_past}
use Rattle.cq_urgency.proofs.Placed.{kept, freed}
use Rattle.cq_urgency.proofs.blocks.Blocks.free_first.Goals as goal

pub invariant_of-self-in_default : goal.invariant_of-self-in_default
invariant_of-self-in_default c =
    let w = kept c.self.invariant.0 c.self.view_is in
    let none : length c.pop_front.new.self.items ≡ 0 =
    grind (arith, common_steps, c.front.ensures.variant, c.in_default.is) in
    search (arith, rules, freed {first' = c.self.inside.first} w, get_or_past)
