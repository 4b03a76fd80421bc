use Rattle.cq_run.proofs.Terms.{taken_by}
use Rattle.cq_run.proofs.Put.{AreLeft}
use Rattle.cq_run.proofs.say.put_line.Given as goal

abbrev pub invariant-pieces : goal.invariant-pieces
invariant-pieces g l =
    let sunk = taken_by g.S.Sink.taken g.S.Sink.faults in
    AreLeft l.pieces l.piece-index (sunk l.fn.sink) (sunk l.sink)
