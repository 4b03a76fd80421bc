use Rattle.cq_simulate.proofs.Terms.{arith, rules, traffic_is}
use Rattle.cq_simulate.proofs.OfPackets.{left_in_order, left_in_packets}
use Rattle.cq_simulate.proofs.FabricLaws.{sends_as_ideal}
use Rattle.cq_simulate.proofs.ResumedWhole.{resumed_in_order, resumed_whole}
use Rattle.cq_simulate.proofs.laws.runs_leave_whole_packets.Goals as goal

pub returns : goal.returns
returns c =
    search (arith, rules, left_in_order, left_in_packets, resumed_in_order, resumed_whole, sends_as_ideal, traffic_is)
