use Rattle.cq_pair.proofs.Terms.{rules, ◌≡◌, [], arith, nil_from_length, eqb-true}
use Rattle.cq_pair.proofs.Reached.{free-shown, best-reached, made-most}
use Rattle.cq_pair.proofs.proposal_core.Core.settle.Goals as goal

pub propose-requires-clause-free : goal.propose-requires-clause-free
propose-requires-clause-free g c = search (arith, rules, free-shown)

pub loop-order-smaller : goal.loop-order-smaller
loop-order-smaller g c =
    omega (arith, made-most c.args.offers.now c.ports-ports.ensures.offers c.propose.new.self c.propose.ensures.reached)

pub returns : goal.returns
returns g c =
    let empty : c.loop-order.self.free ≡ [] = search (arith, rules, nil_from_length, eqb-true) in
    search (arith, rules, best-reached c.args.offers.now c.ports-ports.ensures.offers c.loop-order.self)
