-- When the cells of captured packets arrive at the inputs of a switch, one capture for each input.
use Rattle.std.specs.Prelude.{ℕ, zero, suc, ◌+◌, ◌-◌, ◌*◌, ◌/◌, ◌==◌, min, max, List, [], length, map, flat_map, slice_index_or, Option, None, Some, unwrap_or}
use Rattle.std.specs.List.{range_with_len, reduce}
use Rattle.cq_base.specs.Arriving.{Arrival}
use Rattle.cq_base.specs.Pieces.{cells_of}
use Rattle.cq_base.specs.declared.cell.Cell.{Cell}
use Rattle.cq_pcap.specs.Captured.{Captured}
use Rattle.cq_route.specs.declared.tables.Tables.{Tables}
use Rattle.cq_route.specs.Route.{route}

-- the least of these numbers, or 0 where there is none
abbrev pub least : List ℕ → ℕ
least ns = unwrap_or (reduce min ns) 0

-- the lesser of two numbers, of which each may not be there
abbrev pub earlier : Option ℕ → Option ℕ → Option ℕ
earlier None b = b
earlier (Some a) None = Some a
earlier (Some a) (Some b) = Some (min a b)

-- the stamps of all packets
abbrev pub stamps_of : List (List Captured) → List ℕ
stamps_of captures = flat_map (λ ps. map (λ p. p.stamp) ps) captures

-- T0, the stamp from which slots are counted: the least over all inputs
unfoldable pub t0_of : List (List Captured) → ℕ
t0_of captures = least (stamps_of captures)

-- the packets of an input, in the order of its capture
abbrev pub packets_of : List (List Captured) → ℕ → List Captured
packets_of captures input = slice_index_or captures input []

-- packet k of a capture, or one without bytes where there is none
abbrev pub packet_in : List Captured → ℕ → Captured
packet_in packets k = slice_index_or packets k (record { stamp = 0; original = 0; body = [] })

-- packet k of an input
abbrev pub packet_at : List (List Captured) → ℕ → ℕ → Captured
packet_at captures input k = packet_in (packets_of captures input) k

-- the slot in which the stamp of packet k lies
unfoldable pub stamp_slot : Tables → List (List Captured) → ℕ → ℕ → ℕ
stamp_slot t captures input k = ((packet_at captures input k).stamp - t0_of captures) / t.slot_ns

-- how many cells packet k has
unfoldable pub cells : Tables → List (List Captured) → ℕ → ℕ → ℕ
cells t captures input k = cells_of (length (packet_at captures input k).body) t.cell_bytes

-- the slot in which packet k begins to arrive: that of its stamp, or a later one while the packet before it still
-- arrives
unfoldable pub start : Tables → List (List Captured) → ℕ → ℕ → ℕ
start t captures input zero = stamp_slot t captures input zero
start t captures input (suc k) =
    max (stamp_slot t captures input (suc k)) (start t captures input k + cells t captures input k)

-- cell i of packet k: the piece of the captured frame from i * cell_bytes up to the next piece, or to the frame's
-- end, on the packet's route
unfoldable pub cell_of : Tables → List (List Captured) → ℕ → ℕ → ℕ → Cell
cell_of t captures input k i = record {
  id = record { input = input; packet = k; index = i };
  output = (route t input (packet_at captures input k).body).0;
  class = (route t input (packet_at captures input k).body).1;
  last = i + 1 == cells t captures input k;
  at = i * t.cell_bytes;
  len = min t.cell_bytes (length (packet_at captures input k).body - i * t.cell_bytes);
}

-- the arrivals of packet k: its cells in consecutive slots, from its start on
abbrev pub arrivals_of : Tables → List (List Captured) → ℕ → ℕ → List Arrival
arrivals_of t captures input k =
    map (λ i. record { slot = start t captures input k + i; cell = cell_of t captures input k i })
    (range_with_len 0 (cells t captures input k))

-- the arrivals at an input, packet after packet
unfoldable pub arrivals_at : Tables → List (List Captured) → ℕ → List Arrival
arrivals_at t captures input =
    flat_map (arrivals_of t captures input) (range_with_len 0 (length (packets_of captures input)))

-- all arrivals, input after input
unfoldable pub arrivals : Tables → List (List Captured) → List Arrival
arrivals t captures = flat_map (arrivals_at t captures) (range_with_len 0 (length captures))
