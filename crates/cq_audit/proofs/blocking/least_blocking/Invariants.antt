use Rattle.cq_audit.proofs.Ahead.{LeastUntil}
use Rattle.cq_audit.proofs.blocking.least_blocking.Given as goal

-- the least of the outputs before this one that block
abbrev pub invariant-outputs : goal.invariant-outputs
invariant-outputs l = LeastUntil l.offers l.pairs l.input l.output-index l.least
