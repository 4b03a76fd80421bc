-- The packets that are made: one for each slot and input.
use Rattle.std.specs.Prelude.{ℕ, ◌*◌, ◌/◌, ◌%◌, ◌^◌, List, [], ◌∷◌, ◌++◌, map, replicate}
use Rattle.std.specs.List.{range_with_len}
use Rattle.cq_pcap.specs.Captured.{Captured}
use Rattle.cq_pcap.specs.declared.write.OutPacket.{OutPacket}
use Rattle.cq_route.specs.Defaults.{default_slot_ns}
use Rattle.cq_gen.specs.Draws.{draw_for, first_draws}

-- the address of an output
abbrev pub output_address : ℕ → List ℕ
output_address output = 2 ∷ 0 ∷ 0 ∷ 0 ∷ 0 ∷ output ∷ []

-- the address from which frames come to an input
abbrev pub input_address : ℕ → List ℕ
input_address input = 2 ∷ 0 ∷ 0 ∷ 0 ∷ 1 ∷ input ∷ []

-- an Ethernet frame of 60 bytes with a tag of this priority (IEEE 802.1Q) and an EtherType for local experiments
-- (IEEE 802), and zeros
unfoldable pub frame_of : ℕ → ℕ → ℕ → List ℕ
frame_of output input priority =
    output_address output ++ input_address input ++ 0x81 ∷ 0 ∷ (priority * 32) ∷ 0 ∷ 0x88 ∷ 0xb5 ∷ replicate 42 0

-- the packet that a word makes: to the output that is the word modulo the number of ports, with the word's top three
-- bits as its priority, captured whole when its slot of the default length begins
unfoldable pub packet_of : ℕ → ℕ → ℕ → ℕ → Captured
packet_of ports slot input word =
    record { stamp = slot * default_slot_ns; original = 60; body = frame_of (word % ports) input (word / 2 ^ 29) }

-- a packet, as it is written to a capture
abbrev pub to_write : Captured → OutPacket
to_write p = record { stamp = p.stamp; original = p.original; body = p.body }

-- the packets that come to an input: one in each slot
unfoldable pub packets_to : List ℕ → ℕ → ℕ → ℕ → List Captured
packets_to words ports slots input =
    map (λ slot. packet_of ports slot input (draw_for words ports slot input)) (range_with_len 0 slots)

-- the captures of all inputs, from one word for each slot and input
unfoldable pub soak_captures : ℕ → ℕ → ℕ → List (List Captured)
soak_captures seed ports slots =
    map (packets_to (first_draws seed (slots * ports)) ports slots) (range_with_len 0 ports)
