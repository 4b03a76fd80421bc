use Rattle.cq_engine.proofs.Terms.{rules, arith}
use Rattle.cq_engine.proofs.Shown.{seen}
use Rattle.cq_engine.proofs.engine.Engine.freeze.Goals as goal

pub returns : goal.returns
returns g c = search (arith, rules, seen)
