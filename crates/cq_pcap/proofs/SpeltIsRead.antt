-- What is spelt is read: each number reads back from its four bytes, so the record at the front is the one that was
-- put there, and the bytes after it are the rest.
use Rattle.cq_pcap.proofs.Terms.{IfErr-weaker, rules, ◌≡◌, ℕ, ◌+◌, List, [], ◌∷◌, ◌++◌, length, map, take, drop, refl, arith, append_assoc, length-append, Bool, ◌<◌, common_steps, append-nil, drop-drop, drop_at, length-drop, length-take-le, take-append-drop, take_at, Result, Ok, Err, flat_map, AllByRecursion, Form, number_at, Captured, PcapRefusal, CutHeader, LongRecord, CutBody, IsFaulty, IsSpeltUpTo, ◌>>=◌, first_packet, header_form, packets_from, packets_of, Record, spelling, Fits, Spells, SpellsIn, captured_of, zero, suc, ◌≤◌, packets_in}
use Rattle.cq_pcap.proofs.Headers.{header_read, header_faulty, number_at-drop, number_in-reads_back, first_said, Says}

-- what stands in the bytes of a record, whatever follows it
record Stands (big : Bool) (r : Record) (xs rest : List ℕ) : Type 0 where
  seconds : number_at big 4 xs 0 ≡ r.seconds
  subseconds : number_at big 4 xs 4 ≡ r.subseconds
  len : number_at big 4 xs 8 ≡ length r.body
  original : number_at big 4 xs 12 ≡ r.original
  left : drop 16 xs ≡ r.body ++ rest
  long : length xs ≡ 16 + (length r.body + length rest)

stands : (big : Bool) (r : Record) (rest : List ℕ) → Fits r → Stands big r (spelling big r ++ rest) rest
unfolding number_at
stands big r rest fit = search (arith, rules, number_in-reads_back, length-append)

module _ (form : Form) (r : Record) (rest : List ℕ) (fit : Fits r) where
  first_is : (place : ℕ) → first_packet form place (spelling form.big r ++ rest) ≡ Ok (captured_of form r)
  first_is place =
      let said = first_said form place (spelling form.big r ++ rest) (Ok (captured_of form r)) in
      grind (arith, common_steps, stands form.big r rest fit, said, take_at r.body rest (length r.body) refl)

  after_is : drop (16 + length r.body) (spelling form.big r ++ rest) ≡ rest
  after_is = grind (arith, common_steps, stands, drop-drop, drop_at)

  length_is : length (spelling form.big r ++ rest) ≡ 16 + (length r.body + length rest)
  length_is = (stands form.big r rest fit).long

-- these packets, and then those of what is left
abbrev joined : List Captured → Result (List Captured) PcapRefusal → Result (List Captured) PcapRefusal
joined front left = left >>= (λ ps. Ok (front ++ ps))

-- a fault at the front comes first
fault_first : (form : Form) (place : ℕ) (xs : List ℕ) (fault : PcapRefusal) → 0 < length xs →
    first_packet form place xs ≡ Err fault → (m : ℕ) → length xs ≤ m → packets_in form m place xs ≡ Err fault
fault_first form place xs fault some e m few = grind (arith, common_steps)

-- records that are spelt are read, and then what follows them, if so many records are enough
records_read : (form : Form) (n place ends : ℕ) (rs : List Record) (rest : List ℕ)
    (left : Result (List Captured) PcapRefusal) → ((m : ℕ) → length rest ≤ m → packets_in form m ends rest ≡ left) →
    AllByRecursion Fits rs → ends ≡ place + length (flat_map (spelling form.big) rs) →
    length (flat_map (spelling form.big) rs ++ rest) ≤ n →
    packets_in form n place (flat_map (spelling form.big) rs ++ rest) ≡ joined (map (captured_of form) rs) left
records_read form n place ends [] rest left then fits at few = grind (arith, common_steps, then n few)
records_read form zero place ends (r ∷ rs) rest left then fits at few = search (rules, length-append, length_is)
records_read form (suc n) place ends (r ∷ rs) rest left then fits at few =
    let on = records_read form n (place + (16 + length r.body)) ends rs rest left then fits.1 in
    search (arith, rules, length_is, length-append, first_is, append_assoc, after_is, on)

-- so is a capture
capture_read : (form : Form) (front rest : List ℕ) (packets : List Captured) (left : Result (List Captured) PcapRefusal)
    (ends : ℕ) → ends ≡ length front → ((m : ℕ) → length rest ≤ m → packets_in form m ends rest ≡ left) →
    SpellsIn form front packets → packets_of (front ++ rest) ≡ joined packets left
unfolding packets_of packets_from
capture_read form front rest packets left ends at then s =
    let after = drop_at s.header (flat_map (spelling form.big) s.records ++ rest) 24 in
    search (arith, rules, records_read, length-append, append_assoc, header_read form s.header, after)

pub spelt_is_read : (bytes : List ℕ) (packets : List Captured) → Spells bytes packets → packets_of bytes ≡ Ok packets
spelt_is_read bytes packets s =
    simp append-nil at (capture_read s.0 bytes [] packets (Ok []) (length bytes) refl (λ m few. refl) s.1)

-- a fault of the record after a capture is the file's
record_fault_read : (form : Form) (bytes : List ℕ) (offset : ℕ) (fault : PcapRefusal) → IsSpeltUpTo form bytes offset →
    Says form offset (drop offset bytes) (Err fault) → packets_of bytes ≡ Err fault
record_fault_read form bytes offset fault u says =
    let first = fault_first form offset (drop offset bytes) fault in
    let said = first_said form offset (drop offset bytes) (Err fault) says in
    let read = capture_read form (take offset bytes) (drop offset bytes) u.packets (Err fault) offset in
    search (arith, rules, read, length-take-le, first, length-drop, take-append-drop offset bytes, u.left)

header_fault_read : (bytes : List ℕ) (fault : PcapRefusal) → header_form bytes ≡ Err fault →
    packets_of bytes ≡ Err fault
unfolding packets_of
header_fault_read bytes fault e = grind (arith, common_steps)

-- each fault is read
pub fault_is_read : (bytes : List ℕ) (fault : PcapRefusal) → IsFaulty bytes fault → packets_of bytes ≡ Err fault
fault_is_read bytes (CutHeader offset) h =
    grind (arith, common_steps, record_fault_read h.0 bytes offset (CutHeader offset) h.1, length-drop)
fault_is_read bytes (LongRecord offset len) h =
    let read = record_fault_read h.0 bytes offset (LongRecord offset len) h.1 in
    grind (arith, common_steps, read, length-drop, number_at-drop)
fault_is_read bytes (CutBody offset) h =
    grind (arith, common_steps, record_fault_read h.0 bytes offset (CutBody offset) h.1, length-drop, number_at-drop)
fault_is_read bytes fault h = header_fault_read bytes fault (header_faulty bytes fault refl h)

pub ruleset read_steps = (IfErr-weaker, fault_is_read, spelt_is_read)
