use Rattle.cq_simulate.proofs.Terms.{drop}
use Rattle.cq_simulate.proofs.AllPacked.{SoFar}
use Rattle.cq_simulate.proofs.packets.put_together.Given as goal

abbrev pub invariant-departures : goal.invariant-departures
invariant-departures l =
    SoFar l.tables l.captures l.output l.sent (drop l.departure-index l.sent) l.joiner l.packets.items
