use Rattle.cq_simulate.proofs.Terms.{arith, rules}
use Rattle.cq_simulate.proofs.FabricLaws.{all_slots_send, emulates, only_one}
use Rattle.cq_simulate.proofs.laws.fabric_sends_as_the_ideal_switch.Goals as goal

pub returns : goal.returns
returns c = search (arith, rules, emulates, all_slots_send, only_one)
