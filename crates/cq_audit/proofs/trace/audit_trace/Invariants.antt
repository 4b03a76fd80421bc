use Rattle.cq_audit.proofs.Terms.{length}
use Rattle.cq_audit.proofs.OneDifference.{SameSoFar}
use Rattle.cq_audit.proofs.trace.audit_trace.Given as goal

abbrev pub invariant-bytes : goal.invariant-bytes
invariant-bytes l = SameSoFar l.trace l.ideal l.left l.right l.line

abbrev pub decreases-bytes : goal.decreases-bytes
decreases-bytes l = length l.left
