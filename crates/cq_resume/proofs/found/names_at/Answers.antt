use Rattle.cq_resume.proofs.Terms.{common_steps, rules, tests, Name, IsNameBefore, arith}
use Rattle.cq_resume.proofs.Cut.{computes, not_falling}
use Rattle.cq_resume.proofs.found.names_at.Goals as goal

pub returns : goal.returns
returns c =
    let cut = c.between.ensures (λ (n : Name). n.queued.key.input) c.args.input in
    let rising = not_falling IsNameBefore (λ (n : Name). n.queued.key.input) (λ a b before.
    grind (arith, common_steps)) c.args.names.now c.requires in
    search (arith, rules, tests, cut, computes, rising)
