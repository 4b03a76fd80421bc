use Rattle.cq_prefs.proofs.Terms.{cells_of, orders_of, Orders}
use Rattle.cq_prefs.proofs.Renewing.{Renewing}
use Rattle.cq_prefs.proofs.offers.Offers.renew.Given as goal

-- the inputs before this one are renewed
abbrev pub invariant-inputs : goal.invariant-inputs
invariant-inputs l =
    let o : Orders = record { outputs = l.self-inside.by_input.items; inputs = l.self-inside.by_output.items } in
    Renewing l.changed l.input o (orders_of (cells_of l.lists))
