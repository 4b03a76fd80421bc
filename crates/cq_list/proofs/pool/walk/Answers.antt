use Rattle.cq_list.proofs.Terms.{rules, ap, is_some, arith, slice_get-map}
use Rattle.cq_list.proofs.Put.{is_no_sooner}
use Rattle.cq_list.proofs.Walk.{node_there, search_ends, search_on, node_shown, searched_all, within}
use Rattle.cq_list.proofs.pool.walk.Goals as goal

pub nodes-init : goal.nodes-init
nodes-init c = (record { reached = c.next_of-place.ensures; behind = c.requires.from.count }, c.requires.from.last)

pub index-node-requires : goal.index-node-requires
index-node-requires c = ap is_some (node_there c.requires.chained c.nodes.invariant.0.reached c.nodes-test.true).1

pub returns-then-is_no_sooner : goal.returns-then-is_no_sooner
returns-then-is_no_sooner c = search (arith, rules, search_ends, is_no_sooner)

pub nodes-preserved : goal.nodes-preserved
nodes-preserved c =
    let on = search_on c.requires.chained c.nodes.invariant.0 c.nodes-test.true c.index-node.ensures in
    let shown = node_shown c.requires.chained c.nodes.invariant.0.reached c.nodes-test.true c.index-node.ensures in
    search (arith, rules, on, shown, slice_get-map)

pub returns : goal.returns
returns c = search (arith, rules, searched_all, within, c.nodes.auto.count-end, c.nodes.invariant.1)
