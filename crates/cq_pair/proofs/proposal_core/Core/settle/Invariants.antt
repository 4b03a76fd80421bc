use Rattle.cq_pair.proofs.Terms.{◌*◌, ◌-◌, ports, IsReached}
use Rattle.cq_pair.proofs.proposal_core.Core.settle.Given as goal

abbrev pub invariant-loop-order : goal.invariant-loop-order
invariant-loop-order g l = IsReached l.offers l.self

-- the proposals that may still come
abbrev pub decreases-loop-order : goal.decreases-loop-order
decreases-loop-order g l = ports l.offers * ports l.offers - l.self.made
