use Rattle.cq_audit.proofs.Terms.{ℕ, ◌<◌, IsBlocking}
use Rattle.cq_audit.proofs.blocking.first_blocking.Given as goal

-- none of the inputs before this one blocks
abbrev pub invariant-inputs : goal.invariant-inputs
invariant-inputs l = (k j : ℕ) → k < l.input → IsBlocking l.offers l.pairs k j → ⊥
