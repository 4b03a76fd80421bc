use Rattle.cq_gen.proofs.Terms.{◌≡◌, map, range_with_len, packets_to}
use Rattle.cq_gen.proofs.captures.captures_of.Given as goal

abbrev pub invariant-inputs : goal.invariant-inputs
invariant-inputs l = l.captures.items ≡ map (packets_to l.words l.ports l.slots) (range_with_len 0 l.input)
