use Rattle.cq_simulate.proofs.Terms.{arith, rules, IfOk-weaker, length-map, length-map-range_with_len}
use Rattle.cq_simulate.proofs.TakenUp.{machine_count}
use Rattle.cq_simulate.proofs.ports.ideal_for.Goals as goal

pub new-requires : goal.new-requires
new-requires c = search (arith, rules, machine_count, length-map, length-map-range_with_len)

pub returns : goal.returns
returns c = search (arith, rules, machine_count, length-map, IfOk-weaker)
