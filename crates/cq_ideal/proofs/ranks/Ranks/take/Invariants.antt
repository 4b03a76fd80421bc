use Rattle.cq_ideal.proofs.Terms.{admitted}
use Rattle.cq_ideal.proofs.Came.{InTurn}
use Rattle.cq_ideal.proofs.ranks.Ranks.take.Given as goal

abbrev pub invariant-inputs : goal.invariant-inputs
invariant-inputs g l = InTurn g.R.Rank.machine l.slot (admitted l.limiter.marks l.arrivals) l.fn.self l.input l.self
    l.came
