use Rattle.cq_run.proofs.Terms.{arith, rules, refl, plain_tables}
use Rattle.cq_run.proofs.Planned.{passing_judged}
use Rattle.cq_run.proofs.Reached.{begun, read_ends, exit_is}
use Rattle.cq_run.proofs.judge.pass_over.Goals as goal

pub pass_on-requires-clause-port : goal.pass_on-requires-clause-port
unfolding plain_tables
pass_on-requires-clause-port g c = search (arith, rules)

pub returns-in_err-capture : goal.returns-in_err-capture
returns-in_err-capture g c =
    rw (exit_is _ c.from_residual.ensures.1) (read_ends _ g.met.F.Files.lasts_unbegun
    (begun (λ s. refl) g.met.F.Files.lasts_unbegun c.requires.closed) c.read_input.ensures.kept
    (rw c.requires.plain at c.in_err-capture.ensures.judges)
    (λ name u. u))

pub returns : goal.returns
returns g c =
    passing_judged g.met.F.Files.lasts_unbegun c.requires.closed c.read_input.ensures.kept
    (rw c.requires.plain at c.requires.tables) (rw c.requires.plain at c.in_ok-capture.ensures.judges) c.pass_on.result
    (rw c.requires.plain at c.pass_on.ensures.passing) (rw c.requires.plain at c.pass_on.ensures.refused)
