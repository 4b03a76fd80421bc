use Rattle.cq_prefs.proofs.Terms.{arith, rules, ◌≡◌, length-map, cells_of, orders_of, Orders}
use Rattle.cq_prefs.proofs.Renewing.{orders_made, in_range_of}
use Rattle.cq_prefs.proofs.InputOrder.{are_offers, are_orders}
use Rattle.cq_prefs.proofs.offers.Offers.fill.Goals as goal
use Rattle.cq_prefs.proofs.offers.Offers.fill.Goals.{After-loop-output}

-- the orders in the end
made : (c : After-loop-output) →
    let o : Orders = record {
      outputs = c.loop-output.self-inside.by_input.items;
      inputs = c.loop-output.self-inside.by_output.items;
    } in o ≡ orders_of (cells_of c.args.lists.now)
made c = search (arith, rules, orders_made)

pub invariant_of-self : goal.invariant_of-self
invariant_of-self c =
    let is = made (goal.at.invariant_of-self c).After-loop-output in
    search (arith, rules, is, are_offers, in_range_of, length-map)

pub returns : goal.returns
returns c = search (arith, rules, made, are_orders)
