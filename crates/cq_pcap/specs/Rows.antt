-- What the rows of a capture say of its bytes.
use Rattle.std.specs.Prelude.{◌≡◌, ℕ, ◌+◌, ◌<◌, ◌≤◌, ◌^◌, Ok, List, [], ◌∷◌, ◌++◌, All, length, take, drop, map, Option, None, Some}
use Rattle.std.specs.List.{AllByRecursion}
use Rattle.cq_base.specs.Limits.{longest_file}
use Rattle.cq_pcap.specs.declared.capture.PacketRow.{PacketRow}
use Rattle.cq_pcap.specs.declared.form.Form.{Form}
use Rattle.cq_pcap.specs.declared.read.PcapRefusal.{PcapRefusal}
use Rattle.cq_pcap.specs.Captured.{Captured, rows_from, file_length, longest_body}
use Rattle.cq_pcap.specs.declared.read.PcapRefusal.TheVariants.{CutHeader, LongRecord, CutBody}
use Rattle.cq_pcap.specs.Faults.{IsFaulty}
use Rattle.cq_pcap.specs.Record.{Spells, SpellsIn}
use Rattle.cq_pcap.specs.Reading.{first_packet}

-- the packet of a row: its captured bytes lie where the row says
abbrev pub packet_at : List ℕ → PacketRow → Captured
packet_at bytes row = record { stamp = row.stamp; original = row.original; body = take row.len (drop row.at bytes) }

-- the packets of rows, in order
abbrev pub packets_at : List ℕ → List PacketRow → List Captured
packets_at bytes rows = map (packet_at bytes) rows

-- these rows stand in a file that is not too long, one record after another from its header on
pub record AreRowsOf (bytes : List ℕ) (rows : List PacketRow) : Type 0 where
  pub places : rows ≡ rows_from 24 (packets_at bytes rows)
  pub inside : AllByRecursion (λ row. row.at + row.len ≤ length bytes) rows
  pub stamps : AllByRecursion (λ p. p.stamp < 2 ^ 63) (packets_at bytes rows)
  pub small : file_length (packets_at bytes rows) ≤ longest_file
  pub bodies : All (λ p. length p.body ≤ longest_body) (packets_at bytes rows)

-- the first bytes of a file, up to a place, are a capture of this form, and these are the rows of its packets
pub record AreRowsTo (form : Form) (bytes : List ℕ) (at : ℕ) (rows : List PacketRow) : Type 0 where
  pub within : at ≤ length bytes
  pub ends : at ≡ file_length (packets_at bytes rows)
  pub stand : AreRowsOf bytes rows
  pub spelt : SpellsIn form (take at bytes) (packets_at bytes rows)

-- where the bytes up to a place are a capture, those up to the end of this row are one, with this row more
abbrev pub GoesOn : Form → List ℕ → ℕ → PacketRow → Type 0
GoesOn form bytes at row =
    (rows : List PacketRow) → AreRowsTo form bytes at rows
    → AreRowsTo form bytes (row.at + row.len) (rows ++ row ∷ [])

-- the bytes are a capture, and these are the rows of its packets
pub record AreSpelt (bytes : List ℕ) (rows : List PacketRow) : Type 0 where
  pub stand : AreRowsOf bytes rows
  pub spelt : Spells bytes (packets_at bytes rows)

-- where the record at fault begins; a fault of the header has no place
abbrev pub offset_of : PcapRefusal → Option ℕ
offset_of (CutHeader offset) = Some offset
offset_of (LongRecord offset len) = Some offset
offset_of (CutBody offset) = Some offset
offset_of _ = None

-- the refusal names the fault of the file, which has this place
pub record IsFaultAt (bytes : List ℕ) (place : Option ℕ) (refusal : PcapRefusal) : Type 0 where
  pub faulty : IsFaulty bytes refusal
  pub there : offset_of refusal ≡ place

-- the rows of the records before a place, which is that of a fault; there are none before the end of the header
abbrev pub AreRowsBefore : List ℕ → Option ℕ → List PacketRow → Type 0
AreRowsBefore bytes None rows = rows ≡ []
AreRowsBefore bytes (Some at) rows = (form : Form) × AreRowsTo form bytes at rows

-- the rows of the records of a file up to its end, or up to its fault, which the refusal names
abbrev pub AreRowsUntil : List ℕ → Option PcapRefusal → List PacketRow → Type 0
AreRowsUntil bytes None rows = AreSpelt bytes rows
AreRowsUntil bytes (Some refusal) rows =
    (place : Option ℕ) × IsFaultAt bytes place refusal × AreRowsBefore bytes place rows

-- the bytes, which begin at a place of the file, begin with a record, and this is its row
pub record IsRowOf (form : Form) (bytes : List ℕ) (place : ℕ) (row : PacketRow) : Type 0 where
  pub read : first_packet form place bytes ≡ Ok (record {
    stamp = row.stamp;
    original = row.original;
    body = take row.len (drop 16 bytes);
  })
  pub at : row.at ≡ place + 16
  pub fits : 16 + row.len ≤ length bytes
  pub early : row.stamp < 2 ^ 63
  pub short : row.len ≤ longest_body
