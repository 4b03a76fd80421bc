use Rattle.cq_engine.proofs.Terms.{arith, rules, map, length-map}
use Rattle.cq_engine.proofs.Going.{goes_on}
use Rattle.cq_engine.proofs.Shown.{seen}
use Rattle.cq_engine.proofs.engine.Engine.thaw.Goals as goal

pub invariant_of-result : goal.invariant_of-result
invariant_of-result g c =
    let x = c.args.from.now in
    let ms = map g.R.Rank.machine (map g.R.Rank.fixed c.args.ranks.items) in
    let runs = goes_on ms c.args.limits.now c.args.from_inputs.now c.args.to_outputs.now x in
    search (arith, rules, runs, length-map)

pub returns : goal.returns
returns g c = search (arith, rules, seen)
