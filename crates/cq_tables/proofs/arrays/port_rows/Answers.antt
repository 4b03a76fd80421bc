use Rattle.cq_tables.proofs.Terms.{rules, arith}
use Rattle.cq_tables.proofs.Walk.{walk_holds, walked_more, walked_read, walked_stop}
use Rattle.cq_tables.proofs.arrays.port_rows.Goals as goal

pub returns-in_err-port-clause-refused : goal.returns-in_err-port-clause-refused
returns-in_err-port-clause-refused c = search (arith, rules, walked_stop c.elements.invariant.0)

pub elements-preserved : goal.elements-preserved
elements-preserved c =
    let told = c.in_ok-port.ensures in
    let pushed = c.in_ok-push.ensures in
    search (arith, rules, walked_more)

pub returns : goal.returns
returns c =
    let ports = c.elements.invariant in
    search (arith, rules, walk_holds, walked_read ports.0, walked_read ports.1.0, walked_read ports.1.1, ports.1.1.kept)
