use Rattle.cq_stream.proofs.Terms.{◌≡◌, SameConsumer, received}
use Rattle.cq_stream.proofs.finding.next_order.Given as goal

abbrev pub invariant-turns : goal.invariant-turns
invariant-turns g l = (received l.orders ≡ received l.initial.orders) × SameConsumer l.initial.orders l.orders
