use Rattle.cq_tables.proofs.Terms.{rules, arith, table_view}
use Rattle.cq_tables.proofs.Text.{file_fault, long_told, no_document}
use Rattle.cq_tables.proofs.read.read_tables.Goals as goal

pub returns-then-bytes-gt-LONGEST_CONFIGURATION-clause-refused :
    goal.returns-then-bytes-gt-LONGEST_CONFIGURATION-clause-refused
returns-then-bytes-gt-LONGEST_CONFIGURATION-clause-refused c = search (arith, rules, long_told)

pub returns-in_err-top-clause-refused : goal.returns-in_err-top-clause-refused
returns-in_err-top-clause-refused c = no_document c.args.bytes.now _ (omega arith) (search rules)

pub returns-in_err-files_differ-clause-refused : goal.returns-in_err-files_differ-clause-refused
returns-in_err-files_differ-clause-refused c =
    let told = c.in_err-files_differ.ensures {u = tt} in
    file_fault c.args.bytes.now (table_view c.in_ok-top.top) c.in_ok-tables.tables _ (omega arith)
    c.in_ok-top.ensures.held c.in_ok-tables.ensures.held c.in_ok-tables.ensures.value (search (rules, told.refused))
