use Rattle.cq_audit.proofs.Terms.{arith, rules}
use Rattle.cq_audit.proofs.Ahead.{at_end, kept, taken}
use Rattle.cq_audit.proofs.blocking.least_blocking.Goals as goal

pub outputs-preserved : goal.outputs-preserved
outputs-preserved c =
    let had = c.outputs.invariant in
    let kept_on = kept _ _ _ _ c.preferred-output-items.ensures _ c.requires.offers c.outputs-test.true had in
    let taken_on = taken _ _ _ _ c.preferred-output-items.ensures _ c.requires.offers c.outputs-test.true had in
    search (arith, rules, kept_on, taken_on, c.if-is_none_or.branch, c.is_none_or.ensures)

pub returns : goal.returns
returns c =
    let all = at_end _ _ _ _ c.preferred-output-items.ensures _ c.outputs.least c.outputs.invariant (omega arith) in
    search (arith, rules)
