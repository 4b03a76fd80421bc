use Rattle.cq_run.proofs.Terms.{SameReader}
use Rattle.cq_run.proofs.decoding.take_rest.Given as goal

abbrev pub invariant-turns : goal.invariant-turns
invariant-turns g l = SameReader l.initial.intake l.intake
