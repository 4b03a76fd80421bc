use Rattle.cq_run.proofs.Terms.{arith, rules, sym}
use Rattle.cq_run.proofs.Reached.{exit_is}
use Rattle.cq_run.proofs.stream.stream.Goals as goal

-- want of memory for the name: nothing was read
pub returns-in_err-name-clause-ends : goal.returns-in_err-name-clause-ends
returns-in_err-name-clause-ends g c = search (arith, rules, exit_is)

pub returns-in_err-name-clause-unbegun : goal.returns-in_err-name-clause-unbegun
returns-in_err-name-clause-unbegun g c = search (arith, rules, g.met.F.Files.lasts_unbegun.none)

pub returns : goal.returns
returns g c = rw (sym c.in_ok-name.ensures) (search (arith, rules, c.conclude.ensures.ends, c.conclude.ensures.unbegun))
