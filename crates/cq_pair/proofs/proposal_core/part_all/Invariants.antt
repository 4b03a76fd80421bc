use Rattle.cq_pair.proofs.Leaving.{ArePartedBefore}
use Rattle.cq_pair.proofs.proposal_core.part_all.Given as goal

-- the inputs before this one have no partner
abbrev pub invariant-inputs : goal.invariant-inputs
invariant-inputs l = ArePartedBefore l.input l.ports l.matching
