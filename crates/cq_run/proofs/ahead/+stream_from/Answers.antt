use Rattle.cq_run.proofs.Terms.{common_steps, rules, arith, captures_from, nil_from_length}
use Rattle.cq_run.proofs.Chain.{judges_then}
use Rattle.cq_run.proofs.Ports.{together}
use Rattle.cq_run.proofs.Reached.{exit_is}
use Rattle.cq_run.proofs.ahead.+stream_from.Goals as goal

-- `c.in-Some.ensures.cases.0` says that the rows are the first and the rest.

pub returns-in-None-clause-judges : goal.returns-in-None-clause-judges
unfolding captures_from
returns-in-None-clause-judges g t c = λ r. grind (arith, common_steps, nil_from_length)

-- ## What the readers and the rows before come to

pub returns-in_err-begun-in-Some-clause-judges : goal.returns-in_err-begun-in-Some-clause-judges
unfolding captures_from
returns-in_err-begun-in-Some-clause-judges g t c =
    λ r. search (arith, rules, exit_is, judges_then, c.in_err-begun-in-Some.ensures.halts r)

pub returns-in_ok-begun-in-Some-clause-judges : goal.returns-in_ok-begun-in-Some-clause-judges
returns-in_ok-begun-in-Some-clause-judges g t c = λ r.
    rw c.in-Some.ensures.cases.0
    (together _ c.in_ok-begun-in-Some.ensures.begun c.begin_port.ensures.closed c.begin_port.ensures.told
    c.begin_port.ensures.kept g.met.F.Files.lasts_unbegun r _ _ _ _ _ _ c.finish_port.ensures.spelt
    c.finish_port.ensures.halts (c.stream_from-later.ensures.judges r) c.in_front.ensures)
