use Rattle.cq_run.proofs.Terms.{arith, rules}
use Rattle.cq_run.proofs.top.obey.Goals as goal

pub returns : goal.returns
returns g c = search (arith, rules, c.conclude.ensures.ends, c.conclude.ensures.unbegun)
