use Rattle.cq_run.proofs.Terms.{arith, rules}
use Rattle.cq_run.proofs.Chain.{fails_after}
use Rattle.cq_run.proofs.perform.write_all.Goals as goal

pub loop-writes-init : goal.loop-writes-init
loop-writes-init g c = search (arith, rules, g.met.F.Files.lasts.none)

pub loop-writes-preserved : goal.loop-writes-preserved
loop-writes-preserved g c = search (arith, rules, g.met.F.Files.lasts.both)

pub returns-in-Err-clause-cut : goal.returns-in-Err-clause-cut
returns-in-Err-clause-cut g c = grind arith

pub returns-in-Err-clause-why : goal.returns-in-Err-clause-why
returns-in-Err-clause-why g c = search (arith, rules, fails_after, g.met.F.Files.lasts)
