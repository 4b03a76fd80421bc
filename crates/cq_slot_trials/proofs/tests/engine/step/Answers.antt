use Rattle.cq_slot_trials.proofs.Terms.{arith, on_ok_weaker, rules}
use Rattle.cq_slot_trials.proofs.EngineSlots.{buffer_room, counts_after, grown_after, list_room, on_both}
use Rattle.cq_slot_trials.proofs.tests.engine.step.Goals as goal

pub slot-requires-clause-ready : goal.slot-requires-clause-ready
slot-requires-clause-ready g c =
    let places = c.at-places.ensures.arrivals.places in search (arith, rules, list_room, buffer_room)

pub returns-clause-next : goal.returns-clause-next
returns-clause-next g c = search (arith, rules, on_ok_weaker)

pub returns-clause-grown : goal.returns-clause-grown
returns-clause-grown g c = search (arith, rules, on_both, grown_after)

pub returns-clause-counts : goal.returns-clause-counts
returns-clause-counts g c = search (arith, rules, on_ok_weaker, counts_after)
