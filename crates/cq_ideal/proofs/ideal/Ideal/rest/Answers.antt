use Rattle.cq_ideal.proofs.Terms.{rules, length-map, arith, all_weaker}
use Rattle.cq_ideal.proofs.Came.{fit_same}
use Rattle.cq_ideal.proofs.LimitedRuns.{rest_refuses_none}
use Rattle.cq_ideal.proofs.Resting.{length-idle, rested}
use Rattle.cq_ideal.proofs.ideal.Ideal.rest.Goals as goal

pub invariant_of-self : goal.invariant_of-self
invariant_of-self g c = search (arith, rules, fit_same, length-idle, all_weaker, length-map)

pub returns : goal.returns
returns g c = search (arith, rules, c.args.to, rested, rest_refuses_none)
