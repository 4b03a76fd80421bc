use Rattle.cq_prefs.proofs.Terms.{ℕ, ◌<◌, ◌≢◌, Some, partner_of}
use Rattle.cq_prefs.proofs.matching.Matching.has_free.Given as goal

-- the inputs before this one have another partner or none
abbrev pub invariant-inputs : goal.invariant-inputs
invariant-inputs l = (i : ℕ) → i < l.input → partner_of l.self i ≢ Some l.output
