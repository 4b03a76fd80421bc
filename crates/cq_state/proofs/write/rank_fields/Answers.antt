use Rattle.cq_state.proofs.Terms.{Some, rules, YieldsList-from_map, YieldsList-from_slice, items_from_extend}
use Rattle.cq_state.proofs.write.rank_fields.Goals as goal

pub returns : goal.returns
returns c =
    let all = YieldsList-from_map _ Some (YieldsList-from_slice c.args.numbers.now cc) (cc) (λ x r q k. search rules) in
    search (rules, items_from_extend _ c.extend.ensures.ran all)
