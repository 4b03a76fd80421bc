-- The packets that leave an output.
use Rattle.std.specs.Prelude.{◌≡◌, ℕ, ◌+◌, ◌*◌, ◌<◌, ◌&&◌, ◌==◌, Bool, List, length, map, filter, slice_index_or}
use Rattle.std.specs.List.{flat_map}
use Rattle.cq_base.specs.Arriving.{Arrival}
use Rattle.cq_base.specs.declared.cell.Cell.{Cell}
use Rattle.cq_base.specs.declared.cell.Departure.{Departure}
use Rattle.cq_cells.specs.Schedule.{arrivals, t0_of, packet_at}
use Rattle.cq_ideal.specs.Flows.{came_in_flow, left_in_flow}
use Rattle.cq_pcap.specs.Captured.{Captured}
use Rattle.cq_pcap.specs.Written.{written}
use Rattle.cq_pcap.specs.declared.write.OutPacket.{OutPacket}
use Rattle.cq_route.specs.Tables.{AreTables, ports_of}
use Rattle.cq_route.specs.declared.tables.Tables.{Tables}
use Rattle.cq_simulate.specs.declared.packing.Packing.{Packing}

-- of these cells those of packet k
abbrev pub of_packet : List Cell → ℕ → List Cell
of_packet cells k = filter (λ cell. cell.id.packet == k) cells

-- of each class and for each output, the cells of some packets of input i left, one packet after another in some order:
-- of each packet all cells that came, in the order in which they came
pub record LeftInPackets (came : List Arrival) (i : ℕ) (sent : List Departure) : Type 0 where
  pub packets : ℕ → ℕ → List ℕ
  pub left : (c j : ℕ) → left_in_flow i c j sent ≡ flat_map (of_packet (came_in_flow i c j came)) (packets c j)

-- of each class and at each output, the cells of some packets of input i left, in the order in which they came
pub record LeftInOrder (came : List Arrival) (i : ℕ) (sent : List Departure) : Type 0 where
  pub is_taken : ℕ → Bool
  pub left : (c j : ℕ) → left_in_flow i c j sent ≡ filter (λ cell. is_taken cell.id.packet) (came_in_flow i c j came)

-- at each output the departures of one input and one class are in the order of arrival
abbrev pub LeaveInOrder : List Arrival → List Departure → Type 0
LeaveInOrder came sent = (i : ℕ) → LeftInOrder came i sent

-- the cells that departed are those of whole packets, one packet after another of each input, class and output
abbrev pub LeaveWhole : List Arrival → List Departure → Type 0
LeaveWhole came sent = (i : ℕ) → LeftInPackets came i sent

-- What left in a run over the schedule of these captures, one for each port of the switch of these tables, is of whole
-- packets. Its slots are counted from this stamp.
pub record HaveLeftOf (t : Tables) (cs : List (List Captured)) (sent : List Departure) (stamp : ℕ) : Type 0 where
  pub tables : AreTables t
  pub captures : length cs ≡ ports_of t.setup
  pub whole : LeaveWhole (arrivals t cs) sent
  pub t0 : stamp ≡ t0_of cs

-- whether the last cell of a packet departs at this output
abbrev pub ends_packet_at : ℕ → Departure → Bool
ends_packet_at output d = d.output == output && d.queued.cell.last

-- the packet whose last cell departs: as it was captured, with the stamp of this slot
abbrev pub leaving : Tables → List (List Captured) → Departure → OutPacket
leaving t captures d =
    let p = packet_at captures d.queued.cell.id.input d.queued.cell.id.packet in
    record { stamp = t0_of captures + d.slot * t.slot_ns; original = p.original; body = p.body }

-- the packets that leave an output, in the order in which their last cells depart
unfoldable pub packets_out : Tables → List (List Captured) → List Departure → ℕ → List OutPacket
packets_out t captures sent output = map (leaving t captures) (filter (ends_packet_at output) sent)

-- at each output of the switch stands the capture of the packets that leave it
pub record ArePacked (t : Tables) (captures : List (List Captured)) (sent : List Departure) (places : List Packing) :
    Type 0 where
  pub outputs : length places ≡ ports_of t.setup
  pub bytes : (j : ℕ) (p : Packing) → j < length places →
      (slice_index_or places j p).bytes.items ≡ written (packets_out t captures sent j)
