use Rattle.cq_gen.proofs.Terms.{arith, mul-le, most_ports, most_soak_slots, ◌≡◌, List, length, Captured}
use Rattle.cq_gen.proofs.InRange.{tables_in_range, all_counted}
use Rattle.cq_gen.proofs.Small.{length-packets_to}
use Rattle.cq_gen.proofs.soak.make.Goals as goal

pub overflow_mul-slots : goal.overflow_mul-slots
overflow_mul-slots c =
    omega (arith, mul-le c.args.slots c.args.ports most_soak_slots most_ports c.requires.slots.1 c.requires.ports.1)

pub returns-clause-in_range : goal.returns-clause-in_range
returns-clause-in_range c = rw c.in_ok-tables.ensures (tables_in_range c.args.ports c.requires.ports)

pub returns-clause-packets : goal.returns-clause-packets
returns-clause-packets c = rw c.in_ok-captures.ensures
    (all_counted (λ (ps : List Captured). length ps ≡ c.args.slots) _ _ (λ input _. length-packets_to _ _ _ input))
