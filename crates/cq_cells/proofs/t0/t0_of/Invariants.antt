use Rattle.cq_cells.proofs.Terms.{◌≡◌, min, take, reduce, stamps_of}
use Rattle.cq_cells.proofs.t0.t0_of.Given as goal

abbrev pub invariant-captures : goal.invariant-captures
invariant-captures l = l.first ≡ reduce min (stamps_of (take l.capture-index l.captures))
