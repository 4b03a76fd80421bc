use Rattle.cq_resume.proofs.Terms.{arith, common_steps}
use Rattle.cq_resume.proofs.order.in_order.Goals as goal

pub returns-then-departures_in_order : goal.returns-then-departures_in_order
returns-then-departures_in_order c =
    let moved = rw c.as_slice.ensures at c.transfers_in_order.ensures in
    ((λ yes. let both = moved.0 yes in grind (arith, common_steps)), (λ is. moved.1 (is.3, is.4)))
