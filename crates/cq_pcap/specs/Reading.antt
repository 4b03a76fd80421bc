-- What a file comes to, as a function of its bytes: its packets, or its first fault. The grammar and the faults, read
-- from the front.
use Rattle.std.specs.Prelude.{ℕ, zero, suc, ◌+◌, ◌*◌, ◌%◌, ◌^◌, Bool, not, ◌&&◌, ◌==◌, nat_lt, if◌then◌else◌, List, [], ◌∷◌, length, take, drop, Result, Ok, Err}
use Rattle.std.specs.Option.{ok_or}
use Rattle.cq_pcap.specs.declared.form.Form.{Form}
use Rattle.cq_pcap.specs.Form.{form_at, number_at, unit}
use Rattle.cq_pcap.specs.Captured.{Captured, longest_body}
use Rattle.cq_pcap.specs.declared.read.PcapRefusal.{PcapRefusal}
use Rattle.cq_pcap.specs.declared.read.PcapRefusal.TheVariants.{NoHeader, Magic, Version, LinkType, CutHeader, LongRecord, CutBody}

-- one step after another: the first fault is the answer
infixl 10 ◌>>=◌
abbrev pub ◌>>=◌ : {A B : Type 0} → Result A PcapRefusal → (A → Result B PcapRefusal) → Result B PcapRefusal
(Ok x) >>= f = f x
(Err e) >>= f = Err e

-- whether the version is 2.4
abbrev pub has_version : Form → List ℕ → Bool
has_version form bytes = number_at form.big 2 bytes 4 == 2 && number_at form.big 2 bytes 6 == 4

-- whether the link type is Ethernet
abbrev pub has_link_type : Form → List ℕ → Bool
has_link_type form bytes = number_at form.big 4 bytes 20 % 2 ^ 16 == 1

-- the form, unless the header has another version or link type
abbrev pub checked_form : List ℕ → Form → Result Form PcapRefusal
checked_form bytes form =
    if not (has_version form bytes) then Err Version else if not (has_link_type form bytes) then Err LinkType else Ok
    form

-- the form of the file header
unfoldable pub header_form : List ℕ → Result Form PcapRefusal
header_form bytes =
    if nat_lt (length bytes) 24 then Err NoHeader else ok_or (form_at bytes) Magic >>= checked_form bytes

-- the packet of the record at the front, which begins at a place of the file
unfoldable pub first_packet : Form → ℕ → List ℕ → Result Captured PcapRefusal
first_packet form place bytes =
    let len = number_at form.big 4 bytes 8 in
    if nat_lt (length bytes) 16 then Err (CutHeader place)
    else if nat_lt longest_body len then Err (LongRecord place len)
    else if nat_lt (length bytes) (16 + len) then Err (CutBody place)
    else Ok (record {
      stamp = number_at form.big 4 bytes 0 * 1000000000 + number_at form.big 4 bytes 4 * unit form.nano;
      original = number_at form.big 4 bytes 12;
      body = take len (drop 16 bytes);
    })

-- the packets of the records from a place of the file on, if n records are enough
abbrev pub packets_in : Form → ℕ → ℕ → List ℕ → Result (List Captured) PcapRefusal
packets_in form n place [] = Ok []
packets_in form zero place (b ∷ bs) = Err (CutHeader place)
packets_in form (suc n) place (b ∷ bs) = do
  p ← first_packet form place (b ∷ bs)
  ps ← packets_in form n (place + (16 + length p.body)) (drop (16 + length p.body) (b ∷ bs))
  Ok (p ∷ ps)

-- each record has bytes, so as many records as bytes are enough
unfoldable pub packets_from : Form → ℕ → List ℕ → Result (List Captured) PcapRefusal
packets_from form place bytes = packets_in form (length bytes) place bytes

-- the packets of the file
unfoldable pub packets_of : List ℕ → Result (List Captured) PcapRefusal
packets_of bytes = do
  form ← header_form bytes
  packets_from form 24 (drop 24 bytes)
