use Rattle.cq_gen.proofs.Terms.{◌≡◌, map, written, packets_to, to_write}
use Rattle.cq_gen.proofs.packets.file_to.Given as goal

abbrev pub invariant-slots : goal.invariant-slots
invariant-slots l = l.bytes.items ≡ written (map to_write (packets_to l.words l.ports l.slot l.input))
