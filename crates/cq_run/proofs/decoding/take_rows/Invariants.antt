use Rattle.cq_run.proofs.Terms.{◌≡◌, map, SameReader, taken, Row}
use Rattle.cq_run.proofs.decoding.take_rows.Given as goal

abbrev pub invariant-turns : goal.invariant-turns
invariant-turns g l = (taken l.intake ≡ map Row l.rows.items) × SameReader l.initial.intake l.intake
