-- Numbers of a file in either order: each reads back from its bytes, and the bytes are those of the number read from
-- them.
-- The first bytes of a file tell its form, or the first fault of its header: the tests compare what the rule compares.
-- What the bytes from a place on come to: a packet where a whole record stands there, or else what is wrong with it.
-- The three faults are tried in their order.
use Rattle.cq_pcap.proofs.Terms.{get_or_append_left, get_or_past, cases_lt, rules, ◌≡◌, ℕ, ◌%◌, ◌^◌, ◌≤◌, List, ◌++◌, length, refl, subst, arith, length-append, common_steps, Option, None, Some, Result, Ok, Err, Decides, Decides-and, Decides-eqb, Decides-like, nat_tests, take-append-le, bytes_eq-Decides, Form, form_at, number_at, PcapRefusal, IsFaulty, has_link_type, has_version, header_form, offset_of, HasMagic, HasVersion, HasLinkType, IsHeader, ◌+◌, ◌<◌, [], ◌∷◌, drop, slice_index, ap, sym, Bool, drop-append-le, drop-drop, get_or-drop, length-drop, be_bytes_4, le_bytes_4, bytes_in, number_in, ◌*◌, take, unit, Captured, longest_body, CutHeader, LongRecord, CutBody, first_packet}
use Rattle.byteorder.specs.Numbers.{big_from-append, big_from-lt, big_number-reads_back, little_from-append, little_from-lt, little_number-reads_back}

-- each is a byte
abbrev pub AreBytes : List ℕ → Type 0
AreBytes bytes = (i : ℕ) → slice_index bytes i < 256

pub AreBytes-drop : (xs : List ℕ) (n : ℕ) → AreBytes xs → AreBytes (drop n xs)
AreBytes-drop xs n fits i = subst (λ k. k < 256) (sym (get_or-drop n xs i 0)) (fits (n + i))

pub number_in-reads_back : (big : Bool) (x : ℕ) (rest : List ℕ) → x < 2 ^ 32 →
    number_in big 4 (bytes_in big 4 x ++ rest) ≡ x
number_in-reads_back big x rest h = grind (arith, common_steps, little_number-reads_back, big_number-reads_back)

-- what stands in front does not depend on what follows
pub number_at-append : (big : Bool) (n : ℕ) (xs ys : List ℕ) (at : ℕ) → at + n ≤ length xs →
    number_at big n (xs ++ ys) at ≡ number_at big n xs at
unfolding number_at
number_at-append big n xs ys at h =
    grind (arith, common_steps, length-drop, drop-append-le, little_from-append, big_from-append)

-- a number after a place is one of the bytes from that place on
pub number_at-drop : (big : Bool) (n : ℕ) (xs : List ℕ) (place at : ℕ) →
    number_at big n (drop place xs) at ≡ number_at big n xs (place + at)
unfolding number_at
number_at-drop big n xs place at = ap (number_in big n) (drop-drop at place xs)

pub number_at-lt : (big : Bool) (xs : List ℕ) (at : ℕ) → AreBytes xs → number_at big 4 xs at < 2 ^ 32
unfolding number_at
number_at-lt big xs at fits = grind (arith, common_steps, little_from-lt, big_from-lt, AreBytes-drop)

front_fits : (xs ys : List ℕ) → AreBytes (xs ++ ys) → AreBytes xs
front_fits xs ys fits i = search (arith, rules, get_or_append_left, get_or_past, cases_lt i (length xs), fits i)

-- four bytes are those of the number in them
four_spelt : (big : Bool) (a b c d : ℕ) (ys : List ℕ) → AreBytes (a ∷ b ∷ c ∷ d ∷ ys) →
    a ∷ b ∷ c ∷ d ∷ ys ≡ bytes_in big 4 (number_in big 4 (a ∷ b ∷ c ∷ d ∷ ys)) ++ ys
four_spelt big a b c d ys fits =
    let front = front_fits (a ∷ b ∷ c ∷ d ∷ []) ys fits in
    grind (arith, common_steps, le_bytes_4 (a ∷ b ∷ c ∷ d ∷ []), be_bytes_4 (a ∷ b ∷ c ∷ d ∷ []), front)

pub number_at-spelt : (big : Bool) (xs : List ℕ) (at next : ℕ) → AreBytes xs → next ≡ at + 4 → next ≤ length xs →
    drop at xs ≡ bytes_in big 4 (number_at big 4 xs at) ++ drop next xs
unfolding number_at
number_at-spelt big xs at next fits e h =
    grind (arith, common_steps, length-drop, AreBytes-drop, drop-drop, four_spelt)

-- ## Headers

-- a form is found by its magic
form_found : (form : Form) (bytes : List ℕ) → HasMagic form bytes → form_at bytes ≡ Some form
unfolding form_at
form_found form bytes h = search (arith, rules)

-- and its magic stands there
found_magic : (form : Form) (bytes : List ℕ) → form_at bytes ≡ Some form → HasMagic form bytes
unfolding form_at
found_magic form bytes e = search (arith, rules, bytes_eq-Decides)

version-Decides : (form : Form) (bytes : List ℕ) → Decides (has_version form bytes) (HasVersion form bytes)
version-Decides form bytes = grind (arith, common_steps, Decides-like, Decides-and, Decides-eqb)

link-Decides : (form : Form) (bytes : List ℕ) → Decides (has_link_type form bytes) (HasLinkType form bytes)
link-Decides form bytes = Decides-eqb (number_at form.big 4 bytes 20 % 2 ^ 16) 1

-- what an answer says of the header
abbrev pub Tells : List ℕ → Result Form PcapRefusal → Type 0
Tells bytes (Ok form) = (24 ≤ length bytes) × HasMagic form bytes × HasVersion form bytes × HasLinkType form bytes
Tells bytes (Err fault) = IsFaulty bytes fault × (offset_of fault ≡ None)

-- what is answered is so
pub header_says : (bytes : List ℕ) → Tells bytes (header_form bytes)
unfolding header_form
header_says bytes = search (arith, rules, nat_tests, form_found, found_magic, version-Decides, link-Decides)

ruleset header_tests = (version-Decides, link-Decides, form_found, nat_tests)

-- and what is so is answered: a header of a form, whatever follows it, and each fault of a header
pub header_read : (form : Form) (header rest : List ℕ) → IsHeader form header → header_form (header ++ rest) ≡ Ok form
unfolding header_form
header_read form header rest h =
    grind (arith, common_steps, number_at-append, take-append-le, length-append, header_tests)

no_form : (bytes : List ℕ) (found : Option Form) → form_at bytes ≡ found → ((form : Form) → ¬ HasMagic form bytes) →
    found ≡ None
no_form bytes None e h = refl
no_form bytes (Some form) e h = absurd (h form (found_magic form bytes e))

pub header_faulty : (bytes : List ℕ) (fault : PcapRefusal) → offset_of fault ≡ None → IsFaulty bytes fault →
    header_form bytes ≡ Err fault
unfolding header_form
header_faulty bytes fault o h = search (arith, rules, nat_tests, form_found, version-Decides, link-Decides, no_form)

-- ## Records

-- the captured length that the record at the front states
abbrev pub stated : Form → List ℕ → ℕ
stated form xs = number_at form.big 4 xs 8

-- a whole record stands at the front
pub record IsWhole (form : Form) (xs : List ℕ) : Type 0 where
  pub figures : 16 ≤ length xs
  pub most : stated form xs ≤ longest_body
  pub body : 16 + stated form xs ≤ length xs

-- its packet
abbrev pub front_packet : Form → List ℕ → Captured
front_packet form xs =
    record {
      stamp = number_at form.big 4 xs 0 * 1000000000 + number_at form.big 4 xs 4 * unit form.nano;
      original = number_at form.big 4 xs 12;
      body = take (stated form xs) (drop 16 xs);
    }

-- what an answer says of the bytes
abbrev pub Says : Form → ℕ → List ℕ → Result Captured PcapRefusal → Type 0
Says form place xs (Ok p) = IsWhole form xs × (p ≡ front_packet form xs)
Says form place xs (Err (CutHeader offset)) = (offset ≡ place) × (length xs < 16)
Says form place xs (Err (LongRecord offset len)) =
    (offset ≡ place) × (16 ≤ length xs) × (len ≡ stated form xs) × (longest_body < len)
Says form place xs (Err (CutBody offset)) =
    (offset ≡ place) × (16 ≤ length xs) × (stated form xs ≤ longest_body) × (length xs < 16 + stated form xs)
Says form place xs _ = ⊥

-- what is answered is so
pub first_says : (form : Form) (place : ℕ) (xs : List ℕ) (answer : Result Captured PcapRefusal) →
    first_packet form place xs ≡ answer → Says form place xs answer
unfolding first_packet
first_says form place xs answer e = grind (arith, common_steps, nat_tests)

-- and what is so is answered
pub first_said : (form : Form) (place : ℕ) (xs : List ℕ) (answer : Result Captured PcapRefusal) →
    Says form place xs answer → first_packet form place xs ≡ answer
unfolding first_packet
first_said form place xs answer h = grind (arith, common_steps, nat_tests)
