use Rattle.cq_resume.proofs.Terms.{ℕ, ◌<◌, length, get_or, Queued, cushion_in}
use Rattle.cq_resume.proofs.slack.list_has_room.Given as goal

abbrev pub invariant-places : goal.invariant-places
invariant-places l = (k : ℕ) (d : Queued) → k < l.ahead → k < length (cushion_in l.buffered (get_or l.list k d))
