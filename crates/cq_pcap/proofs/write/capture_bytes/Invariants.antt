use Rattle.cq_pcap.proofs.Terms.{◌≡◌, take, written}
use Rattle.cq_pcap.proofs.write.capture_bytes.Given as goal

abbrev pub invariant-loop-packet : goal.invariant-loop-packet
invariant-loop-packet l = l.out.items ≡ written (take l.packet-index l.packets)
