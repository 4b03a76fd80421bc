use Rattle.cq_list.proofs.Terms.{arith, common_steps, cases_Bool}
use Rattle.cq_list.proofs.Put.{all_sooner, one_later}
use Rattle.cq_list.proofs.pool.are_more_urgent.Goals as goal

pub returns : goal.returns
returns c =
    let sooner = all_sooner _ c.requires.chained.rising c.requires.some c.last_of_some.ensures.cell c.args.key in
    let later = one_later _ c.requires.chained.rising c.requires.some c.last_of_some.ensures.cell c.args.key in
    grind (arith, common_steps, sooner, later, cases_Bool)
