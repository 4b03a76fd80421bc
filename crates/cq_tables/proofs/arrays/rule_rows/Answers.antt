use Rattle.cq_tables.proofs.Terms.{rules, arith}
use Rattle.cq_tables.proofs.Walk.{walk_holds, walked_more, walked_read, walked_stop}
use Rattle.cq_tables.proofs.arrays.rule_rows.Goals as goal

pub returns-in_err-row-clause-refused : goal.returns-in_err-row-clause-refused
returns-in_err-row-clause-refused c = search (arith, rules, walked_stop c.rules.invariant)

pub rules-preserved : goal.rules-preserved
rules-preserved c = walked_more c.rules.invariant _ (omega arith) c.index-values-index.is c.in_ok-row.ensures.held
    c.in_ok-row.ensures.value (c.in_ok-row.ensures.input, c.in_ok-row.ensures.class) (search rules)

pub returns : goal.returns
returns c =
    let walked = c.rules.invariant in
    let held = walk_holds _ _ _ walked.checked (omega arith) in
    let value = walked_read walked (omega arith) in
    search (arith, rules, walked.kept)
