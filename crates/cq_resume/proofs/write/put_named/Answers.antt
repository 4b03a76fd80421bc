use Rattle.cq_resume.proofs.Terms.{rules, YieldsList-from_map, YieldsList-from_slice, items_from_extend, named_as}
use Rattle.cq_resume.proofs.write.put_named.Goals as goal

pub returns : goal.returns
returns c =
    let all = YieldsList-from_map _ named_as (YieldsList-from_slice c.args.cells.now cc)
    (cc) (λ x r q k. search rules) in
    search (rules, items_from_extend _ c.extend.ensures.ran all)
