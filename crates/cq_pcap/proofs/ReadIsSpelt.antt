-- What is read of bytes is spelt. The four bytes of each figure are those of the number read from them, so where a
-- whole record stands behind a capture, the bytes up to its end are a capture too. This goes on from the header until
-- no byte is left, or to a record with a fault, which is the file's then. And what is spelt or faulty is read as
-- that.
use Rattle.cq_pcap.proofs.Terms.{rules, ◌≡◌, ◌⊎◌, ℕ, zero, suc, ◌+◌, ◌<◌, ◌≤◌, List, [], ◌∷◌, ◌++◌, length, take, drop, inl, inr, refl, arith, append_assoc, length-append, common_steps, drop-drop, length-drop, length-take-le, take-append-drop, take-append-le, take_at, Result, Ok, Err, Form, number_at, Captured, PcapRefusal, IsFaulty, IsSpeltUpTo, packets_of, HasLinkType, HasMagic, HasVersion, IsHeader, Record, spelling, Fits, Spells, subst, ⊎_elim, cases_lt, take_all, SpellsIn, append-nil, flat_map-append, map-append, all_both}
use Rattle.cq_pcap.proofs.Headers.{header_says, Tells, AreBytes, AreBytes-drop, number_at-append, number_at-drop, number_at-lt, number_at-spelt, IsWhole, Says, first_says, front_packet, stated}
use Rattle.cq_pcap.proofs.SpeltIsRead.{fault_is_read, spelt_is_read}

-- the record at the front
abbrev pub front_record : Form → List ℕ → Record
front_record form xs =
    record {
      seconds = number_at form.big 4 xs 0;
      subseconds = number_at form.big 4 xs 4;
      original = number_at form.big 4 xs 12;
      body = take (stated form xs) (drop 16 xs);
    }

module _ (form : Form) (xs : List ℕ) (fits : AreBytes xs) (w : IsWhole form xs) where
  pub body_length : length (take (stated form xs) (drop 16 xs)) ≡ stated form xs
  body_length = grind (arith, common_steps, stated, length-drop, length-take-le)

  pub record_fits : Fits (front_record form xs)
  record_fits = grind (arith, common_steps, number_at-lt, body_length)

  pub record_spelt : xs ≡ spelling form.big (front_record form xs) ++ drop (16 + stated form xs) xs
  record_spelt =
      let word = number_at-spelt form.big xs in
      let h = w.figures in
      let last = word 12 16 fits refl h in
      let third = word 8 12 fits refl (omega arith) in
      let second = word 4 8 fits refl (omega arith) in
      let first = word 0 4 fits refl (omega arith) in
      let rest = take-append-drop (stated form xs) (drop 16 xs) in
      simp (append_assoc, body_length) (cc (first, second, third, last, rest, drop-drop (stated form xs) 16 xs))

-- a record at the front of what follows a capture goes on with it
module _ (form : Form) (bytes : List ℕ) (at : ℕ) (packets : List Captured) (fits : AreBytes bytes)
    (within : at ≤ length bytes) (s : SpellsIn form (take at bytes) packets) (w : IsWhole form (drop at bytes)) where
  abbrev xs : List ℕ
  xs = drop at bytes

  abbrev next : Record
  next = front_record form xs

  spelt_next : xs ≡ spelling form.big next ++ drop (16 + stated form xs) xs
  spelt_next = record_spelt form xs (AreBytes-drop bytes at fits) w

  front_is : take (at + (16 + stated form xs)) bytes ≡ take at bytes ++ spelling form.big next
  front_is =
      let front = take at bytes ++ spelling form.big next in let all = take-append-drop at bytes in
      let cut = take_at front (drop (16 + stated form xs) xs) in
      search (arith, rules, cut, length-take-le, spelt_next, length-append, append_assoc, all, stated, length-drop)

  pub spelt_more : SpellsIn form (take (at + (16 + stated form xs)) bytes) (packets ++ front_packet form xs ∷ [])
  spelt_more =
      let fit = record_fits form xs (AreBytes-drop bytes at fits) w in
      let both = all_both Fits s.records (next ∷ []) in
      search (arith, rules, front_is, append_assoc, append-nil, flat_map-append, map-append, both)

-- the first 24 bytes are a header where all bytes say so
module _ (form : Form) (bytes : List ℕ) (long : 24 ≤ length bytes) (m : HasMagic form bytes)
    (v : HasVersion form bytes) (l : HasLinkType form bytes) where
  begins : IsHeader form (take 24 bytes)
  begins = search (arith, rules, length-take-le, take-append-le, take-append-drop 24 bytes, number_at-append)

  pub spelt_none : SpellsIn form (take 24 bytes) []
  spelt_none = grind (arith, common_steps, begins, append-nil (take 24 bytes))

-- a fault at a place where the bytes before it are a capture
pub faulty_at : (form : Form) (bytes : List ℕ) (offset : ℕ) (fault : PcapRefusal) → IsSpeltUpTo form bytes offset →
    Says form offset (drop offset bytes) (Err fault) → IsFaulty bytes fault
faulty_at form bytes offset fault u h = grind (arith, common_steps, length-drop, number_at-drop)

-- ## All bytes

-- they are a capture, or have a fault
abbrev Known : List ℕ → Type 0
Known bytes = ((packets : List Captured) × Spells bytes packets) ⊎ ((fault : PcapRefusal) × IsFaulty bytes fault)

-- by what stands at a place, up to which they are a capture
module _ (form : Form) (bytes : List ℕ) (at : ℕ) (packets : List Captured)
    (s : SpellsIn form (take at bytes) packets) where
  at_end : length bytes ≤ at → Known bytes
  at_end past = inl (packets, (form, subst (λ ys. SpellsIn form ys packets) (take_all at bytes past) s))

  by_first : at < length bytes → (first : Result Captured PcapRefusal) → Says form at (drop at bytes) first →
      (IsWhole form (drop at bytes) → Known bytes) → Known bytes
  by_first left first says more = grind (arith, common_steps, faulty_at)

walk : (form : Form) (bytes : List ℕ) (n at : ℕ) (packets : List Captured) → AreBytes bytes → at ≤ length bytes →
    length bytes ≤ at + n → SpellsIn form (take at bytes) packets → Known bytes
walk form bytes zero at packets fits within few s = at_end form bytes at packets s (omega arith)
walk form bytes (suc n) at packets fits within few s = ⊎_elim
    (λ left. by_first form bytes at packets s left _ (first_says form at (drop at bytes) _ refl) (λ w.
    let body = w.body in
    walk form bytes n _ _ fits (omega (arith, length-drop at bytes)) (omega arith)
    (spelt_more form bytes at packets fits within s w)))
    (at_end form bytes at packets s) (cases_lt at (length bytes))

by_header : (bytes : List ℕ) (header : Result Form PcapRefusal) → AreBytes bytes → Tells bytes header → Known bytes
by_header bytes (Ok form) fits h = grind (arith, common_steps, walk form bytes (length bytes) 24 [], spelt_none)
by_header bytes (Err fault) fits h = inr (fault, h.0)

pub spelt_or_faulty : (bytes : List ℕ) → AreBytes bytes →
    ((packets : List Captured) × Spells bytes packets) ⊎ ((fault : PcapRefusal) × IsFaulty bytes fault)
spelt_or_faulty bytes fits = by_header bytes _ fits (header_says bytes)

pub read_is_spelt : (bytes : List ℕ) (packets : List Captured) → AreBytes bytes → packets_of bytes ≡ Ok packets →
    Spells bytes packets
read_is_spelt bytes packets fits e = ⊎_elim (λ s. grind (arith, common_steps, spelt_is_read bytes s.0 s.1))
    (λ f. grind (arith, common_steps, fault_is_read bytes f.0 f.1)) (spelt_or_faulty bytes fits)

pub read_is_faulty : (bytes : List ℕ) (fault : PcapRefusal) → AreBytes bytes → packets_of bytes ≡ Err fault →
    IsFaulty bytes fault
read_is_faulty bytes fault fits e = ⊎_elim (λ s. grind (arith, common_steps, spelt_is_read bytes s.0 s.1))
    (λ f. grind (arith, common_steps, fault_is_read bytes f.0 f.1)) (spelt_or_faulty bytes fits)
