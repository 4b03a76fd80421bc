use Rattle.cq_crew.proofs.Terms.{◌-◌, ◌*◌, ports, IsSeatOf, ProposesFor}
use Rattle.cq_crew.proofs.worker.propose_all.Given as goal

abbrev pub invariant-proposals : goal.invariant-proposals
invariant-proposals g l = IsSeatOf l.ledger l.seat × ProposesFor l.initial.seat.view l.seat.view

abbrev pub decreases-proposals : goal.decreases-proposals
decreases-proposals g l = ports l.ledger.offers * ports l.ledger.offers - l.seat.view.made
