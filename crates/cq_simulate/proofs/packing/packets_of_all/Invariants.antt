use Rattle.cq_simulate.proofs.Terms.{length, map, unpacked}
use Rattle.cq_simulate.proofs.AllPacked.{AllSoFar}
use Rattle.cq_simulate.proofs.packing.packets_of_all.Given as goal

abbrev pub invariant-departures : goal.invariant-departures
invariant-departures l = AllSoFar l.tables l.captures l.fn.sent.items (map unpacked l.left) l.places.items

abbrev pub decreases-departures : goal.decreases-departures
decreases-departures l = length l.left
