use Rattle.cq_fabric.proofs.Terms.{◌≡◌, ℕ, ◌+◌, ◌<◌, ◌≤◌, get_or, length, JudgesAsBefore, came_to}
use Rattle.cq_fabric.proofs.Known.{bit}
use Rattle.cq_fabric.proofs.sent.release.Given as goal

-- the outputs before this one hold what they sent no longer, and the others are as before
abbrev pub invariant-outputs : goal.invariant-outputs
invariant-outputs l = record {
  done : (j : ℕ) → j < l.output → get_or l.limiter.held j 0 + bit (came_to l.gone j) ≡ get_or l.fn.limiter.held j 0;
  left : (j : ℕ) → l.output ≤ j → get_or l.limiter.held j 0 ≡ get_or l.fn.limiter.held j 0;
  ports : length l.limiter.held ≡ length l.fn.limiter.held;
  judges : JudgesAsBefore l.fn.limiter l.limiter;
}
