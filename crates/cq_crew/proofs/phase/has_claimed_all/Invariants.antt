use Rattle.cq_crew.proofs.Terms.{ℕ, ◌<◌, HasClaimed}
use Rattle.cq_crew.proofs.phase.has_claimed_all.Given as goal

-- the inputs before this one are claimed
abbrev pub invariant-claims : goal.invariant-claims
invariant-claims l = (i : ℕ) → i < l.input → HasClaimed l.seat.view i
