use Rattle.cq_tables.proofs.Terms.{rules, arith}
use Rattle.cq_tables.proofs.Walk.{apart_more, apart_stop, walk_holds, walked_read}
use Rattle.cq_tables.proofs.addresses.address_rows.Goals as goal

pub returns-in_err-row-clause-refused : goal.returns-in_err-row-clause-refused
returns-in_err-row-clause-refused c = search (arith, rules, apart_stop c.addresses.invariant)

pub addresses-preserved : goal.addresses-preserved
addresses-preserved c =
    let told = c.in_ok-row.ensures in
    apart_more c.addresses.invariant c.index-values-index.result (omega arith) c.index-values-index.is told.held
    told.value told.output told.fresh told.known (search rules)

pub returns : goal.returns
returns c =
    let walked = c.addresses.invariant.walked in
    let differ = c.addresses.invariant.differ in
    let held = walk_holds _ _ _ walked.checked (omega arith) in
    let value = walked_read walked (omega arith) in
    search (arith, rules, walked.kept)
