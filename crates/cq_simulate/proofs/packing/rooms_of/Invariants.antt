use Rattle.cq_simulate.proofs.Terms.{◌≡◌, length}
use Rattle.cq_simulate.proofs.packing.rooms_of.Given as goal

abbrev pub invariant-departures : goal.invariant-departures
invariant-departures l = length l.rooms.items ≡ l.ports
