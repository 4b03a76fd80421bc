use Rattle.cq_route.proofs.Terms.{take}
use Rattle.cq_route.proofs.Listed.{AreListed}
use Rattle.cq_route.proofs.directory.Directory.of.Given as goal

abbrev pub invariant-rows : goal.invariant-rows
invariant-rows l = AreListed (take l.row-index l.rows) l.outputs
