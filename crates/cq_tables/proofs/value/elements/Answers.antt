use Rattle.cq_tables.proofs.Terms.{sym, rules, arith, view}
use Rattle.cq_tables.proofs.Values.{array_view_in}
use Rattle.cq_tables.proofs.value.elements.Goals as goal

pub returns-in-Some-clause-held : goal.returns-in-Some-clause-held
returns-in-Some-clause-held c =
    let is = array_view_in c.args.least c.args.most (view c.args.value.now) c.in-Some.items.now.items
    (sym c.in-Some.ensures) in search (arith, rules)

pub returns-in-Some-2-clause-wrong : goal.returns-in-Some-2-clause-wrong
returns-in-Some-2-clause-wrong c =
    let is = array_view_in c.args.least c.args.most (view c.args.value.now) c.in-Some.items.now.items
    (sym c.in-Some.ensures) in search (arith, rules)
