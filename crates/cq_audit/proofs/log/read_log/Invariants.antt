use Rattle.cq_audit.proofs.Terms.{None, length, log_line, SoFar, Comes}
use Rattle.cq_audit.proofs.log.read_log.Given as goal

abbrev pub invariant-lines : goal.invariant-lines
invariant-lines l = SoFar log_line (Comes l.ports) None l.log l.note.items l.last l.rest

abbrev pub decreases-lines : goal.decreases-lines
decreases-lines l = length l.rest
