use Rattle.cq_run.proofs.Reached.{captures_end, given_read, exit_is}
use Rattle.cq_run.proofs.Chain.{from_front}
use Rattle.cq_run.proofs.judge.judge_tables.Goals as goal

pub returns-in_err-captures : goal.returns-in_err-captures
returns-in_err-captures g c = λ config start kept read. rw (exit_is _ c.from_residual.ensures.1)
    (captures_end config c.args.asked g.met.F.Files.lasts_unbegun read kept c.in_err-captures.ensures.judges
    c.read_inputs.ensures.kept)

pub judge_captures-requires-clause-closed : goal.judge_captures-requires-clause-closed
judge_captures-requires-clause-closed g c κs within = (c.in_ok-captures.ensures.judges from_front).closed

pub returns : goal.returns
returns g c = λ config start kept read. c.judge_captures.ensures config start (given_read g.met.F.Files.lasts_unbegun
    c.requires.tables read kept c.in_ok-captures.ensures.judges c.in_ok-captures.ensures.each
    c.read_inputs.ensures.kept)
