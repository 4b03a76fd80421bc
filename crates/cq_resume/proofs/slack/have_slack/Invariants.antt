use Rattle.cq_resume.proofs.Terms.{ℕ, ◌<◌, ◌==◌, filter}
use Rattle.cq_resume.specs.Finding.{HasRoom}
use Rattle.cq_resume.proofs.slack.have_slack.Given as goal

abbrev pub invariant-inputs : goal.invariant-inputs
invariant-inputs l = (i : ℕ) → i < l.input → HasRoom l.buffered (filter (λ q. q.key.input == i) l.listed)
