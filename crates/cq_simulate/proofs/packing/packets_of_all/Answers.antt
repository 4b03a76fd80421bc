use Rattle.cq_simulate.proofs.Terms.{rules, length, ap, arith}
use Rattle.cq_simulate.proofs.AllPacked.{at_port, can_take, none_yet, one_more}
use Rattle.cq_simulate.proofs.packing.packets_of_all.Goals as goal

pub departures-init : goal.departures-init
departures-init c = search (arith, rules, none_yet c.requires)

pub index_mut-requires : goal.index_mut-requires
index_mut-requires c =
    let inside = at_port c.departures.invariant c.in-Some.ensures c.departure-departure.ensures c.requires in
    search (arith, rules)

pub take-requires-clause-can : goal.take-requires-clause-can
take-requires-clause-can c =
    can_take c.departures.invariant c.in-Some.ensures c.departure-departure.ensures c.requires c.index_mut.result.now
    c.index_mut.ensures.value

pub departures-smaller : goal.departures-smaller
departures-smaller c = let shorter = ap length c.in-Some.ensures in omega arith

pub departures-preserved : goal.departures-preserved
departures-preserved c =
    one_more c.departures.invariant c.in-Some.ensures c.departure-departure.ensures c.requires c.index_mut.result.now
    c.index_mut.ensures.value c.take.new.self c.in_ok-take.ensures
