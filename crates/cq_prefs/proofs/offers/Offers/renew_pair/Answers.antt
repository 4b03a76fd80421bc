use Rattle.cq_prefs.proofs.Terms.{arith, rules}
use Rattle.cq_prefs.proofs.InputOrder.{are_orders}
use Rattle.cq_prefs.proofs.Renewing.{Next, row_asks, column_asks, pair_of, pair_next, pair_renewed}
use Rattle.cq_prefs.proofs.offers.Offers.renew_pair.Goals as goal
use Rattle.cq_prefs.proofs.offers.Offers.renew_pair.Goals.{After-index-lists-at}

-- what is known of the two orders
next : (c : After-index-lists-at) → Next (pair_of c.args.lists.now c.args.input c.args.output) c.args.input
    c.args.output
    c.self.inside.by_input.items c.self.inside.by_output.items c.args.lists.now
next c = search (arith, rules, pair_next)

pub renew_outputs-requires : goal.renew_outputs-requires
renew_outputs-requires c =
    let x = next (goal.at.renew_outputs-requires c).After-index-lists-at in
    search (arith, rules, row_asks x c.index_mut.result.now c.index-lists-at.result)

pub renew_inputs-requires : goal.renew_inputs-requires
renew_inputs-requires c =
    let x = next (goal.at.renew_inputs-requires c).After-index-lists-at in search (arith, rules, column_asks x)

-- ## The orders in the end

pub invariant_of-self : goal.invariant_of-self
invariant_of-self c = search (arith, rules, next, pair_renewed)

pub returns-clause-orders : goal.returns-clause-orders
returns-clause-orders c = search (arith, rules, pair_renewed, next)

pub returns-clause-first_cells : goal.returns-clause-first_cells
returns-clause-first_cells c = search (arith, rules, pair_renewed, next, are_orders)
