use Rattle.cq_audit.proofs.Terms.{arith, common_steps, lit≤, refl, cond_both, eqb-true}
use Rattle.cq_audit.proofs.OneDifference.{one_same_more}
use Rattle.cq_audit.proofs.trace.audit_trace.Goals as goal

pub bytes-preserved-then-byte-eq10 : goal.bytes-preserved-then-byte-eq10
bytes-preserved-then-byte-eq10 c =
    let same = c.in-Some.ensures.found in
    one_same_more _ _ _ _ _ _ c.in-Some.byte c.bytes.line _ 1 c.bytes.invariant same.0 same.1
    (rw c.if-byte-eq10.true refl) (lit≤ tt) refl

pub bytes-preserved : goal.bytes-preserved
bytes-preserved c =
    let same = c.in-Some.ensures.found in
    one_same_more _ _ _ _ _ _ c.in-Some.byte c.bytes.line _ 0 c.bytes.invariant same.0 same.1
    (grind (arith, common_steps, cond_both, eqb-true)) (lit≤ tt) (omega arith)
