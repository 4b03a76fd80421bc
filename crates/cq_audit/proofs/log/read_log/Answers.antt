use Rattle.cq_audit.proofs.Terms.{rules, one_line_more}
use Rattle.cq_audit.proofs.log.read_log.Goals as goal

pub lines-preserved : goal.lines-preserved
lines-preserved c =
    let next = c.in-Some.ensures.found in
    one_line_more _ _ _ _ _ _ _ _ _ _ c.in-Some.transfer c.lines.invariant next.0 next.1 (search rules)
