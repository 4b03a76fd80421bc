-- What is kept of captured packets.
use Rattle.std.specs.Prelude.{ℕ, ◌+◌, List, [], ◌∷◌, length, sum_by}
use Rattle.cq_pcap.specs.declared.capture.PacketRow.{PacketRow}

-- a captured packet: its stamp in nanoseconds, its length on the wire, and its captured bytes
pub record Captured : Type 0 where
  pub stamp : ℕ
  pub original : ℕ
  pub body : List ℕ

-- the most captured bytes of a packet
abbrev pub longest_body : ℕ
longest_body = 262144

-- the rows of packets whose first record begins at a place of the file: each record has sixteen bytes of figures
-- before its captured bytes
abbrev pub rows_from : ℕ → List Captured → List PacketRow
rows_from place [] = []
rows_from place (p ∷ ps) =
    record { stamp = p.stamp; original = p.original; at = place + 16; len = length p.body }
    ∷ rows_from (place + 16 + length p.body) ps

-- the bytes of a file with these packets
abbrev pub file_length : List Captured → ℕ
file_length ps = 24 + sum_by (λ p. 16 + length p.body) ps
