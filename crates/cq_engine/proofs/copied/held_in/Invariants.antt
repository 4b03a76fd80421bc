use Rattle.cq_engine.proofs.Terms.{fabric_in}
use Rattle.cq_engine.proofs.Counted.{HeldSoFar}
use Rattle.cq_engine.proofs.copied.held_in.Given as goal

abbrev pub invariant-inputs : goal.invariant-inputs
invariant-inputs l = HeldSoFar (fabric_in l.from) l.list-index l.held
