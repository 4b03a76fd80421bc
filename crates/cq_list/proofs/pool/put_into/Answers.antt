use Rattle.cq_list.proofs.Terms.{arith, rules, refl, get}
use Rattle.cq_list.proofs.Linked.{are_more, placed}
use Rattle.cq_list.proofs.pool.put_into.Goals as goal

pub returns : goal.returns
returns c =
    let more = are_more (get c.args.nodes.now) _ _ c.args.queue _ c.args.ahead.count _ c.args.queued c.requires.linked
    refl c.requires.other_key c.requires.ahead.count c.put_node-first.ensures.chained refl c.last_of.ensures in
    search (arith, rules, placed)
