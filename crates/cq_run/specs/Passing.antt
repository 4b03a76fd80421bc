-- What leaves a switch of one port: every packet of its capture, once and in its place.
use Rattle.std.specs.Prelude.{ℕ, ◌+◌, ◌-◌, ◌*◌, List, [], ◌∷◌, length, map}
use Rattle.std.specs.List.{range_with_len}
use Rattle.cq_cells.specs.Schedule.{cells, t0_of, packet_in, start}
use Rattle.cq_pcap.specs.Captured.{Captured}
use Rattle.cq_pcap.specs.Written.{written}
use Rattle.cq_pcap.specs.declared.write.OutPacket.{OutPacket}
use Rattle.cq_route.specs.declared.tables.Tables.{Tables}

-- the slot in which the last cell of packet k arrives
abbrev pub last_slot : Tables → List Captured → ℕ → ℕ
last_slot t packets k = start t (packets ∷ []) 0 k + (cells t (packets ∷ []) 0 k - 1)

-- packet k as it leaves: as it was captured, with the stamp of that slot
abbrev pub as_it_leaves : Tables → List Captured → ℕ → OutPacket
as_it_leaves t packets k =
    let p = packet_in packets k in
    record {
      stamp = t0_of (packets ∷ []) + last_slot t packets k * t.slot_ns;
      original = p.original;
      body = p.body;
    }

-- all packets, in the order of the capture
abbrev pub all_leave : Tables → List Captured → List OutPacket
all_leave t packets = map (as_it_leaves t packets) (range_with_len 0 (length packets))

-- their capture
abbrev pub capture_of_all : Tables → List Captured → List ℕ
capture_of_all t packets = written (all_leave t packets)
