use Rattle.cq_ideal.proofs.Came.{Putting}
use Rattle.cq_ideal.proofs.queues.Queues.arrive.Given as goal

abbrev pub invariant-inputs : goal.invariant-inputs
invariant-inputs l = Putting l.came l.fn.self l.input l.self
