use Rattle.cq_ideal.proofs.Changed.{Made}
use Rattle.cq_ideal.proofs.queues.Queues.new.Given as goal

abbrev pub invariant-loop-room : goal.invariant-loop-room
invariant-loop-room l = Made l.rooms l.room-index l.queues.items
