-- The grammar of captures (pcap file format, version 2.4): a file header, and then whole records.
use Rattle.std.specs.Prelude.{◌≡◌, ℕ, ◌+◌, ◌*◌, ◌%◌, ◌<◌, ◌≤◌, ◌^◌, List, ◌++◌, length, take, map, Bool}
use Rattle.std.specs.List.{flat_map, AllByRecursion}
use Rattle.cq_pcap.specs.declared.form.Form.{Form}
use Rattle.cq_pcap.specs.Form.{bytes_in, magic, number_at, unit}
use Rattle.cq_pcap.specs.Captured.{Captured, longest_body}

-- the first four bytes are the magic of the form
abbrev pub HasMagic : Form → List ℕ → Type 0
HasMagic form bytes = take 4 bytes ≡ magic form

-- the version is 2.4
pub record HasVersion (form : Form) (bytes : List ℕ) : Type 0 where
  pub major : number_at form.big 2 bytes 4 ≡ 2
  pub minor : number_at form.big 2 bytes 6 ≡ 4

-- the link type, the lower 16 bits of the network field, is Ethernet
abbrev pub HasLinkType : Form → List ℕ → Type 0
HasLinkType form bytes = number_at form.big 4 bytes 20 % 2 ^ 16 ≡ 1

-- a file header of a form; zone, sigfigs, snaplen and the upper 16 bits of the network field may be anything
pub record IsHeader (form : Form) (header : List ℕ) : Type 0 where
  pub len : length header ≡ 24
  pub magic : HasMagic form header
  pub version : HasVersion form header
  pub link : HasLinkType form header

-- a record: its stamp in seconds and subseconds, its length on the wire, and its captured bytes
pub record Record : Type 0 where
  pub seconds : ℕ
  pub subseconds : ℕ
  pub original : ℕ
  pub body : List ℕ

-- sixteen bytes of figures, and the captured bytes
abbrev pub spelling : Bool → Record → List ℕ
spelling big r =
    bytes_in big 4 r.seconds ++ bytes_in big 4 r.subseconds ++ bytes_in big 4 (length r.body)
    ++ bytes_in big 4 r.original ++ r.body

-- its figures fit their fields, and it has at most 262,144 captured bytes
pub record Fits (r : Record) : Type 0 where
  pub seconds : r.seconds < 2 ^ 32
  pub subseconds : r.subseconds < 2 ^ 32
  pub original : r.original < 2 ^ 32
  pub body : length r.body ≤ longest_body

-- what is kept of a record: subseconds of any size are added as they stand
abbrev pub captured_of : Form → Record → Captured
captured_of form r =
    record { stamp = r.seconds * 1000000000 + r.subseconds * unit form.nano; original = r.original; body = r.body }

-- the bytes are a header of this form, then the records of these packets in order, and nothing else
pub record SpellsIn (form : Form) (bytes : List ℕ) (packets : List Captured) : Type 0 where
  pub header : List ℕ
  pub records : List Record
  pub begins : IsHeader form header
  pub fit : AllByRecursion Fits records
  pub whole : bytes ≡ header ++ flat_map (spelling form.big) records
  pub kept : map (captured_of form) records ≡ packets

-- the bytes are a capture of these packets, in one of the forms
abbrev pub Spells : List ℕ → List Captured → Type 0
Spells bytes packets = (form : Form) × SpellsIn form bytes packets
