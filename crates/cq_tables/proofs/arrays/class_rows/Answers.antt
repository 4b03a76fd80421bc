use Rattle.cq_tables.proofs.Terms.{rules, arith}
use Rattle.cq_tables.proofs.Walk.{walk_holds, walked_more, walked_read, walked_stop}
use Rattle.cq_tables.proofs.arrays.class_rows.Goals as goal

pub returns-in_err-row-clause-refused : goal.returns-in_err-row-clause-refused
returns-in_err-row-clause-refused c = search (arith, rules, walked_stop c.classes.invariant)

pub classes-preserved : goal.classes-preserved
classes-preserved c = walked_more c.classes.invariant _ (omega arith) c.index-values-index.is c.in_ok-row.ensures.held
    c.in_ok-row.ensures.value (c.in_ok-row.ensures.level, c.in_ok-row.ensures.cost) (search rules)

pub returns : goal.returns
returns c =
    let walked = c.classes.invariant in search (arith, rules, walk_holds, walked_read, walked.kept)
