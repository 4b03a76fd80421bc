use Rattle.cq_list.proofs.Terms.{ap, is_some, arith, common_steps}
use Rattle.slab.proofs.SlabLemmas.{Updates-with_value}
use Rattle.cq_list.proofs.Linked.{is_behind, chain_more, others_stay}
use Rattle.cq_list.proofs.pool.put_behind.Goals as goal

pub returns : goal.returns
returns c =
    let put = c.insert_reserved-place in
    let led = Updates-with_value put.new.self c.args.ahead.last _ (ap is_some c.index_mut.ensures.value) in
    let there = c.last_of_some-next.ensures.there in
    let behind = is_behind put.ensures.was_vacant there put.ensures.updates c.index_mut.ensures.value led in
    let stay = others_stay c.requires.linked c.args.ahead.count c.requires.last c.requires.some behind in
    let chained = chain_more c.requires.linked c.args.ahead.count c.requires.last c.requires.some behind in
    grind (arith, common_steps, stay, chained)
