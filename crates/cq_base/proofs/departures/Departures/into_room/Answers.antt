use Rattle.cq_base.proofs.Terms.{rules, length, ap, arith, append-nil, append_assoc, length-map}
use Rattle.cq_base.proofs.departures.Departures.into_room.Goals as goal

pub departures-init : goal.departures-init
departures-init c = search (arith, rules, length-map)

pub departures-smaller : goal.departures-smaller
departures-smaller c = let shorter = ap length c.in-Some.ensures in omega arith

pub departures-preserved : goal.departures-preserved
departures-preserved c = let shorter = ap length c.in-Some.ensures in search (arith, rules, append_assoc)

pub returns-clause-items : goal.returns-clause-items
returns-clause-items c = search (arith, rules, append-nil)
