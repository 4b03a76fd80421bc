use Rattle.cq_prefs.proofs.Terms.{rules, ◌≡◌, ℕ, Some, arith, cells_of, orders_of, Orders}
use Rattle.cq_prefs.specs.declared.offers.Offers.TheInside.{Inside}
use Rattle.cq_prefs.proofs.InputOrder.{are_orders}
use Rattle.cq_prefs.proofs.Renewing.{Next, none_renewed, none_between, all_renewed, still_offers, row_asks, column_asks, next_renewed}
use Rattle.cq_prefs.proofs.offers.Offers.renew.Goals as goal
use Rattle.cq_prefs.proofs.offers.Offers.renew.Goals.{After-partner_of, After-inputs, in-Some, in_default}

abbrev shown : Inside → Orders
shown s = record { outputs = s.by_input.items; inputs = s.by_output.items }

pub inputs-init : goal.inputs-init
inputs-init c =
    let first = none_renewed c.args.changed.now (shown c.self.inside) (orders_of (cells_of c.args.lists.now)) in
    search (arith, rules, first)

-- what is known where the next input has a partner
next : (c : After-partner_of) (j : ℕ) → c.partner_of.result ≡ Some j →
    Next c.args.changed.now c.inputs.input j c.inputs.self-inside.by_input.items c.inputs.self-inside.by_output.items
    c.args.lists.now
next c j is = search (arith, rules, still_offers)

pub renew_outputs-requires : goal.renew_outputs-requires
renew_outputs-requires c =
    let x = next (goal.at.renew_outputs-requires c).After-partner_of c.in-Some.output c.in-Some.is in
    search (arith, rules, row_asks x c.index_mut.result.now c.index-lists-at.result)

pub renew_inputs-requires : goal.renew_inputs-requires
renew_inputs-requires c =
    let x = next (goal.at.renew_inputs-requires c).After-partner_of c.in-Some.output c.in-Some.is in
    search (arith, rules, column_asks x)

pub inputs-preserved : goal.inputs-preserved
inputs-preserved c =
    let x = next (goal.at.inputs-preserved c).After-partner_of in
    elim c.match-partner_of.branch [
      | in-Some w ↦ search (arith, rules, x w.in-Some.output w.in-Some.is, next_renewed)
      | in_default w ↦ search (arith, rules, none_between)
    ]

-- the orders in the end
ended : (c : After-inputs) → shown c.inputs.self-inside ≡ orders_of (cells_of c.args.lists.now)
ended c = all_renewed c.args.changed.now c.inputs.input _ (orders_of (cells_of c.args.lists.now)) c.inputs.invariant
    (omega arith)

pub invariant_of-self : goal.invariant_of-self
invariant_of-self c = search (arith, rules, ended, still_offers)

pub returns-clause-orders : goal.returns-clause-orders
returns-clause-orders c = ended (goal.at.returns-clause-orders c).After-inputs

pub returns-clause-first_cells : goal.returns-clause-first_cells
returns-clause-first_cells c = search (arith, rules, ended, are_orders)
