use Rattle.cq_tables.proofs.Walk.{Apart}
use Rattle.cq_tables.proofs.files.files_differ.Given as goal

abbrev pub invariant-ports : goal.invariant-ports
invariant-ports l = Apart l.tables l.index
