-- A made packet goes where its word says. Its destination is the address of one output and of no other, and its tag
-- has the priority of one rule and of no other, so what is found is that one.
use Rattle.cq_gen.proofs.Terms.{common_steps, rules, ◌≡◌, ℕ, zero, suc, ◌+◌, ◌*◌, ◌/◌, ◌%◌, ◌<◌, ◌≤◌, ◌^◌, Bool, true, false, length, map, find, Some, refl, arith, mod-lt, cases_eq, eq-eqb, ne_eqb, IsInRange, range_with_len, frame_of, output_address, packet_of, soak_address, soak_tables, plain_tables}
use Rattle.cq_frame.specs.Frame.{destination, priority}
use Rattle.cq_route.specs.Route.{is_to, route}

-- what is found is the item of the only number that passes
found_counted : {X : Type 0} (test : X → Bool) (f : ℕ → X) (j a n : ℕ) → a ≤ j → j < a + n → test (f j) ≡ true →
    ((k : ℕ) → (k ≡ j → ⊥) → test (f k) ≡ false) → find test (map f (range_with_len a n)) ≡ Some (f j)
found_counted test f j a zero low high here other = absurd (omega arith)
found_counted {X} test f j a (suc n) low high here other = search (rules, cases_eq, found_counted test f j (a + 1) n)

-- the output is the only one with this address, and the rule the only one with this priority
frame_routed : (ports input output rank : ℕ) → output < ports → rank < 8 →
    route (soak_tables ports) input (frame_of output input rank) ≡ (output, rank)
unfolding route priority destination frame_of soak_tables plain_tables
frame_routed ports input output rank inside few =
    let found = found_counted (is_to (Some (output_address output))) soak_address output 0 ports in
    search (arith, rules, found, found_counted, ne_eqb, eq-eqb)

pub packet_routed : (ports slot input word : ℕ) → IsInRange 1 64 ports → word < 2 ^ 32 →
    route (soak_tables ports) input (packet_of ports slot input word).body ≡ (word % ports, word / 2 ^ 29)
unfolding packet_of
packet_routed ports slot input word range fits = grind (arith, common_steps, frame_routed, mod-lt)

pub packet_fills_one_cell : (ports slot input word : ℕ) →
    length (packet_of ports slot input word).body ≤ (soak_tables ports).cell_bytes
unfolding packet_of frame_of soak_tables plain_tables
packet_fills_one_cell ports slot input word = omega arith

pub packet_begins_its_slot : (ports slot input word : ℕ) →
    (packet_of ports slot input word).stamp ≡ slot * (soak_tables ports).slot_ns
unfolding packet_of soak_tables plain_tables
packet_begins_its_slot ports slot input word = refl

pub ruleset packet_steps = (packet_routed, packet_fills_one_cell, packet_begins_its_slot)
