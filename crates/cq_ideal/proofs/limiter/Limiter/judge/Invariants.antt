use Rattle.cq_ideal.proofs.Counting.{Judging}
use Rattle.cq_ideal.proofs.limiter.Limiter.judge.Given as goal

abbrev pub invariant-inputs : goal.invariant-inputs
invariant-inputs l = Judging l.arrivals l.fn.self l.input l.self
