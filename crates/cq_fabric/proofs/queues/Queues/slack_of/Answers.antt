use Rattle.cq_fabric.proofs.Terms.{◌≡◌, arith, rules, length-map, list_of, item_inside, seen_at}
use Rattle.cq_fabric.proofs.Newest.{found_by_key}
use Rattle.cq_fabric.proofs.queues.Queues.slack_of.Goals as goal

pub returns : goal.returns
returns c =
    let cells : c.index-list.result.now.cells ≡ list_of c.args.self.now.inputs c.args.input =
    search (arith, rules, seen_at, item_inside) in
    let place = found_by_key c.args.queued.now c.index-list.result.now.cells (rw cells c.requires.newest)
    c.outputs-waiting.ensures.waiting.in_order in
    search (arith, rules, seen_at, item_inside, length-map)
