use Rattle.cq_resume.proofs.Terms.{rules, tests, Queued, IsBufferedBefore, arith}
use Rattle.cq_resume.proofs.Cut.{computes, not_falling}
use Rattle.cq_resume.proofs.slack.cells_for.Goals as goal

pub returns : goal.returns
returns c =
    let cut = c.between.ensures (λ (q : Queued). q.cell.output) c.args.output in
    let rising = not_falling IsBufferedBefore (λ (q : Queued). q.cell.output) in
    search (arith, rules, tests, cut, computes, rising)
