use Rattle.cq_tables.proofs.Terms.{arith, rules}
use Rattle.cq_tables.proofs.Text.{document_none, document_some}
use Rattle.cq_tables.proofs.read.document.Goals as goal

pub returns-in-Ok-clause-held : goal.returns-in-Ok-clause-held
returns-in-Ok-clause-held c = document_some c.args.bytes.now _ c.in-Ok.ensures.ok.0 c.in-Ok.ensures.ok.1

pub returns-in-Err-2-clause-refused : goal.returns-in-Err-2-clause-refused
returns-in-Err-2-clause-refused c = search (arith, rules, document_none, c.in-Err.ensures.refused)
