use Rattle.cq_crew.proofs.Terms.{◌≡◌, Some, HaveTried, IsIdleAfter}
use Rattle.cq_crew.proofs.worker.claim_between.Given as goal

-- the inputs before this one were tried, by a worker that has begun
abbrev pub invariant-inputs : goal.invariant-inputs
invariant-inputs g l = IsIdleAfter l.ledger l.initial.seat.view l.seat
    × (HaveTried l.seat.view l.from l.input × (l.seat.view.began ≡ Some l.worker))
