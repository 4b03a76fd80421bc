use Rattle.cq_fabric.proofs.Terms.{arith, rules, get_or_default, length-map, length-replicate, ports, AreSquare}
use Rattle.cq_fabric.proofs.Queued.{new_square}
use Rattle.cq_fabric.proofs.Offered.{as_offered}
use Rattle.cq_fabric.proofs.queues.Queues.holding.Goals as goal
use Rattle.cq_fabric.proofs.queues.Queues.holding.Goals.{In_ok-offers}

-- there are as many lists as buffers, and so many are offered
square : (c : In_ok-offers) →
    AreSquare c.in_ok-waiting.waiting.items c.in_ok-crossed.crossed.items (ports c.in_ok-offers.offers)
square c = search (arith, rules, new_square, length-replicate, length-map)

pub fill-requires : goal.fill-requires
fill-requires c = search (arith, rules, square (goal.at.fill-requires c).In_ok-offers)

pub invariant_of-result : goal.invariant_of-result
invariant_of-result c =
    search (arith, rules, new_square, as_offered, length-map, length-replicate, get_or_default, c.type_inv.to_outputs)
