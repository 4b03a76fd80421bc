-- The capture that is written: little-endian with nanoseconds.
use Rattle.std.specs.Prelude.{ℕ, ◌/◌, ◌%◌, ◌^◌, ◌*◌, ◌<◌, ◌≤◌, List, [], ◌∷◌, ◌++◌, length, false}
use Rattle.std.specs.List.{flat_map}
use Rattle.cq_pcap.specs.Captured.{Captured, longest_body}
use Rattle.cq_pcap.specs.Record.{Record, spelling}
use Rattle.cq_pcap.specs.declared.write.OutPacket.{OutPacket}

-- the magic, version 2.4, zone and sigfigs 0, at most 262,144 bytes a packet, Ethernet
abbrev pub written_header : List ℕ
written_header =
    77 ∷ 60 ∷ 178 ∷ 161 ∷ 2 ∷ 0 ∷ 4 ∷ 0 ∷ 0 ∷ 0 ∷ 0 ∷ 0 ∷ 0 ∷ 0 ∷ 0 ∷ 0 ∷ 0 ∷ 0 ∷ 4 ∷ 0 ∷ 1 ∷ 0 ∷ 0 ∷ 0 ∷ []

-- the record of a packet: its seconds are cut to 32 bits
abbrev pub written_record : OutPacket → Record
written_record p =
    record {
      seconds = p.stamp / 1000000000 % 2 ^ 32;
      subseconds = p.stamp % 1000000000;
      original = p.original;
      body = p.body;
    }

-- the bytes that a packet has in a capture
abbrev pub record_of : OutPacket → List ℕ
record_of p = spelling false (written_record p)

-- the file of these packets
abbrev pub written : List OutPacket → List ℕ
written ps = written_header ++ flat_map record_of ps

-- a packet that is written is read as this
abbrev pub read_again : OutPacket → Captured
read_again p = record { stamp = p.stamp; original = p.original; body = p.body }

-- the packet fits a record: its stamp is below 2^32 seconds
pub record IsWritable (p : OutPacket) : Type 0 where
  pub stamp : p.stamp < 2 ^ 32 * 1000000000
  pub original : p.original < 2 ^ 32
  pub body : length p.body ≤ longest_body
