use Rattle.cq_resume.proofs.Terms.{rules, tests, Queued, IsNoLaterInput, arith}
use Rattle.cq_resume.proofs.Cut.{computes, not_falling}
use Rattle.cq_resume.proofs.slack.list_at.Goals as goal

pub returns : goal.returns
returns c =
    let cut = c.between.ensures (λ (q : Queued). q.key.input) c.args.input in
    search (arith, rules, tests, cut, computes, not_falling IsNoLaterInput)
