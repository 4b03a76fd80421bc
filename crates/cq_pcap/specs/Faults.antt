-- What is wrong with a file that is no capture: the first of its faults, and where it stands.
use Rattle.std.specs.Prelude.{◌≡◌, ℕ, ◌+◌, ◌<◌, ◌≤◌, List, length, take, Option, None, Some}
use Rattle.cq_pcap.specs.declared.form.Form.{Form}
use Rattle.cq_pcap.specs.declared.read.PcapRefusal.{PcapRefusal}
use Rattle.cq_pcap.specs.declared.read.PcapRefusal.TheVariants.{NoHeader, Magic, Version, LinkType, CutHeader, CutBody, LongRecord, NoMemory}
use Rattle.cq_pcap.specs.Form.{number_at}
use Rattle.cq_pcap.specs.Captured.{Captured, longest_body}
use Rattle.cq_pcap.specs.Record.{HasMagic, HasVersion, HasLinkType, SpellsIn}

-- the bytes before a place are a capture of this form, and bytes are left from there on
pub record IsSpeltUpTo (form : Form) (bytes : List ℕ) (offset : ℕ) : Type 0 where
  pub packets : List Captured
  pub spelt : SpellsIn form (take offset bytes) packets
  pub left : offset < length bytes

-- the captured length that a record at a place states
abbrev pub stated_length : Form → List ℕ → ℕ → ℕ
stated_length form bytes offset = number_at form.big 4 bytes (offset + 8)

-- the refusal names the first fault of the file: before it the header is as it should be, and each record is whole. An
-- offset is the place of the record at fault, and a length is the captured length that this record states. Want of
-- memory is no fault of a file
abbrev pub IsFaulty : List ℕ → PcapRefusal → Type 0
IsFaulty bytes NoHeader = length bytes < 24
IsFaulty bytes Magic = (24 ≤ length bytes) × ((form : Form) → ¬ HasMagic form bytes)
IsFaulty bytes Version = (24 ≤ length bytes) × (form : Form) × HasMagic form bytes × ¬ HasVersion form bytes
IsFaulty bytes LinkType =
    (24 ≤ length bytes) × (form : Form) × HasMagic form bytes × HasVersion form bytes × ¬ HasLinkType form bytes
IsFaulty bytes (CutHeader offset) = (form : Form) × IsSpeltUpTo form bytes offset × (length bytes < offset + 16)
IsFaulty bytes (LongRecord offset len) =
    (form : Form) × IsSpeltUpTo form bytes offset × (offset + 16 ≤ length bytes)
    × (len ≡ stated_length form bytes offset) × (longest_body < len)
IsFaulty bytes (CutBody offset) =
    (form : Form) × IsSpeltUpTo form bytes offset × (offset + 16 ≤ length bytes)
    × (stated_length form bytes offset ≤ longest_body) × (length bytes < offset + 16 + stated_length form bytes offset)
IsFaulty bytes NoMemory = ⊥

-- the fault that a refusal names; want of memory is none
abbrev pub fault_of : PcapRefusal → Option PcapRefusal
fault_of NoMemory = None
fault_of fault = Some fault
