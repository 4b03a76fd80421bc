use Rattle.cq_base.proofs.Terms.{◌≡◌, ◌+◌, ◌++◌, map, take, unpacked}
use Rattle.cq_base.proofs.departures.put_each.Given as goal

abbrev pub invariant-departures : goal.invariant-departures
invariant-departures l = record {
  items : map unpacked l.packed.items ≡ map unpacked l.fn.packed.items ++ take l.departure-index l.sent;
  spare : l.packed.spare + l.departure-index ≡ l.fn.packed.spare;
}
