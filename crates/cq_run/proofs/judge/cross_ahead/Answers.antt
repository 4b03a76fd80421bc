use Rattle.cq_run.proofs.Terms.{◌∙◌}
use Rattle.cq_run.proofs.Planned.{run_judged}
use Rattle.cq_run.proofs.Reached.{captures_end, given_read, exit_is}
use Rattle.cq_run.specs.declared.judge.Asked.TheVariants as asked
use Rattle.cq_run.proofs.judge.cross_ahead.Goals as goal

pub returns-in_err-captures : goal.returns-in_err-captures
returns-in_err-captures g c = λ config start kept read. rw (exit_is _ c.from_residual.ensures.1)
    (captures_end config asked.Run g.met.F.Files.lasts_unbegun read kept
    (λ r. rw c.as_slice-rows.ensures at (c.in_err-captures.ensures.judges r)) c.stream_from.ensures.kept)

pub returns : goal.returns
returns g c = λ config start kept read.
    let each = rw c.as_slice-rows.ensures at c.in_ok-captures.ensures.each in
    run_judged (given_read g.met.F.Files.lasts_unbegun c.requires.tables read kept
    (λ r. rw c.as_slice-rows.ensures at (c.in_ok-captures.ensures.judges r)) (each ∙ c.requires.tables.files)
    c.stream_from.ensures.kept) _ c.cross.ensures.crossing c.cross.ensures.refused
