-- One judgement after another. Where the first ends without an answer, so do both; where it has one, the second is
-- left, and what ends that ends both. A name that the second is to read is to be read by both, since the first comes to
-- the same without it, or misses it. First, judging where a name is not there: a judgement that accepts the contents
-- comes to the same without some name, unless it is to read that name: then it misses it. This holds of the bytes of
-- one name, and of one judgement after another.
use Rattle.cq_run.proofs.Terms.{rules, arith, ◌≡◌, ◌⊎◌, ℕ, List, IfSome, Result, Ok, Err, common_steps, Contents, Space, Mode, Refusal, Missing, Halt, ◌>>=◌, Judges, Pace, Ahead, Uncounted, AnyName, Call, Fails, Lasts, ◌∙◌, cond, [], ◌∷◌, ap, inl, Option, None, ◌+◌, nat_list_cmp_total, get, get-remove, exact_bytes, tells_apart, PortRow, Reader, tables_in, capture_in, packets_at, captures_from, short_in, eq_by_cmp_equiv, ⊎_elim, ◌<◌, ◌≤◌, length, codes, Some, le-ltb, bytes_of, Configuration, IsRefused, first, read_or_refused, sym, slice_index, Captured, PcapRefusal, IsFaulty, Spells, Halts, halt_for, file_in, spelt_or_faulty, fault_is_read, spelt_is_read}
use Rattle.std.specs.FinMap.{remove}
use Rattle.cq_run.specs.declared.refusal.Refusal.TheVariants.{Capture}
use Rattle.cq_run.specs.declared.refusal.CaptureFault.TheVariants.{Long}
use Rattle.cq_pcap.specs.Reading.{packets_of}

-- without a name the judgement comes to the same, or misses that name
unfoldable pub Stays : {A : Type 0} → (Contents → Result A Refusal) → Type 0
Stays {A} judge = (m : Contents) (name : List ℕ) (x : A) → judge m ≡ Ok x
    → (judge (remove m name) ≡ Ok x) ⊎ (judge (remove m name) ≡ Err (Missing name))

pub tables_stay : (name : List ℕ) → Stays (tables_in name)
unfolding Stays
tables_stay name m asked x h =
    grind (arith, common_steps, tells_apart exact_bytes name asked, get-remove nat_list_cmp_total m asked name)

pub short_stays : (long : Refusal) (limit : ℕ) (name : List ℕ) → Stays (short_in long limit name)
unfolding Stays
short_stays long limit name m asked x h =
    grind (arith, common_steps, tells_apart exact_bytes name asked, get-remove nat_list_cmp_total m asked name)

pub capture_stays : (r : Reader) (name : List ℕ) (input limit : ℕ) → Stays (capture_in r name input limit)
unfolding Stays
capture_stays r name input limit m asked x h =
    grind (arith, common_steps, short_stays (Capture input (Long limit)) limit name m asked)

pub packets_stay : (r : Reader) (input limit : ℕ) (read : Option (List ℕ)) → Stays (packets_at r input limit read)
unfolding Stays
packets_stay r input limit read m name x h = grind (arith, common_steps, capture_stays)

pub captures_from_stay : (r : Reader) (limit input : ℕ) (rows : List PortRow) → Stays (captures_from r limit input rows)
unfolding captures_from Stays
captures_from_stay r limit input [] m name x h = inl h
captures_from_stay r limit input (row ∷ rows) m name x h =
    grind (arith, common_steps, packets_stay, captures_from_stay r limit (input + 1) rows m name)

pub get-remove_same : (m : Contents) (name : List ℕ) → get (remove m name) name ≡ None
get-remove_same m name = get-remove nat_list_cmp_total m name name
    ∙ ap (λ b. cond b None (get m name)) ((eq_by_cmp_equiv nat_list_cmp_total).refl name)

-- ## The count of faults

-- a call that failed after something else was done failed also since that began, where it counted no fault
pub fails_after : {S : Type 0} {space : S → Space} {may_fail : Call → S → S → Type 0} {keeps : S → S → Type 0}
    {kind : Mode → Call → Type 0} {old mid new : S} → Lasts keeps → (space mid).faults ≡ (space old).faults →
    keeps old mid → Fails space may_fail keeps kind mid new → Fails space may_fail keeps kind old new
fails_after lasts same kept h = grind (arith, common_steps, lasts.both)

-- more may be said of a name that was unread
pub name_after : (pace : Pace) (R S : List ℕ → Type 0) (old mid new : ℕ) → ((name : List ℕ) → R name → S name)
    → mid ≡ old → Uncounted pace (AnyName R) mid new → Uncounted pace (AnyName S) old new
name_after pace R S old mid new i e h = grind (arith, common_steps)

-- what judging ahead came to tells the count of faults
pub counts_of : {A : Type 0} (j : Contents → Result A Refusal) (R : List ℕ → Type 0) (old new : Space)
    (result : Result A Halt) → Judges Ahead j R old new result → Uncounted Ahead (AnyName R) old.faults new.faults
counts_of j R old new result h = grind (arith, common_steps)

-- ## The rest of a judgement

-- of these contents the whole comes to what the rest comes to, and without any one name too, unless it misses that
pub record ComesTo {B : Type 0} (whole rest : Contents → Result B Refusal) (m : Contents) : Type 0 where
  pub same : whole m ≡ rest m
  pub without : (name : List ℕ) →
      (whole (remove m name) ≡ rest (remove m name)) ⊎ (whole (remove m name) ≡ Err (Missing name))

-- what is known at a moment of judging: all that was judged so far was accepted. No fault was counted, and of the
-- contents, which are as before, the whole comes to what is left
pub record Stands {A : Type 0} (whole rest : Contents → Result A Refusal) (old now : Space) : Type 0 where
  pub comes : IfSome old.told (ComesTo whole rest)
  pub told : now.told ≡ old.told
  pub uncounted : now.faults ≡ old.faults

-- at first all is left
pub stands_first : {A : Type 0} {whole : Contents → Result A Refusal} {old : Space} → Stands whole whole old old
stands_first = grind (arith, common_steps)

-- what is left is put differently
pub stands_as : {A : Type 0} {whole rest other : Contents → Result A Refusal} {old now : Space} →
    ((m : Contents) → rest m ≡ other m) → Stands whole rest old now → Stands whole other old now
stands_as same s = grind (arith, common_steps)

-- what ends the rest ends the whole
pub stands_back : {A : Type 0} {whole rest : Contents → Result A Refusal} {p : Pace} {R S : List ℕ → Type 0}
    {old mid new : Space} {halt : Halt} → ((name : List ℕ) → R name → S name) → Stands whole rest old mid →
    Judges p rest R mid new (Err halt) → Judges p whole S old new (Err halt)
stands_back i s h = search (arith, rules, name_after)

-- ## One after the other

-- both, one after the other
abbrev pub both : {A B : Type 0} → (Contents → Result A Refusal) → (A → Contents → Result B Refusal) → Contents →
    Result B Refusal
both j f m = j m >>= (λ x. f x m)

-- the first ends both
pub judges_then : {A B : Type 0} {j : Contents → Result A Refusal} (f : A → Contents → Result B Refusal) {p : Pace}
    {R S : List ℕ → Type 0} {old new : Space} {halt : Halt} → ((name : List ℕ) → R name → S name) →
    Judges p j R old new (Err halt) → Judges p (both j f) S old new (Err halt)
judges_then f i h = search (arith, rules, name_after)

-- once the first is accepted, what comes behind it is left
pub comes_on : {A B : Type 0} {whole : Contents → Result B Refusal} (j : Contents → Result A Refusal)
    (f : A → Contents → Result B Refusal) (x : A) → Stays j → (m : Contents) → j m ≡ Ok x →
    ComesTo whole (both j f) m → ComesTo whole (f x) m
unfolding Stays
comes_on j f x s m e h = record { same = cc; without = search (arith, rules, h.without) }

pub stands_on : {A B : Type 0} {whole : Contents → Result B Refusal} {j : Contents → Result A Refusal}
    (f : A → Contents → Result B Refusal) {q : Pace} {Q : List ℕ → Type 0} {old mid new : Space} {x : A} → Stays j →
    Stands whole (both j f) old mid → Judges q j Q mid new (Ok x) → Stands whole (f x) old new
stands_on {whole = whole} {j = j} f {x = x} s st h = search (arith, rules, comes_on {whole = whole} j f x s)

-- ## What is told of a text from what was read under its name: its bytes, where they are not too many

-- a trace or a log of an audit, or the state of a stopped run
module _ (long : Refusal) (limit : ℕ) (name : List ℕ) where
  pub text_is : (told : Option Contents) (bytes : List ℕ) → length bytes ≤ limit →
      IfSome told (λ m. get m name ≡ Some bytes)
      → IfSome told (λ m. short_in long limit name m ≡ Ok bytes)
  text_is told bytes short at = grind (arith, common_steps, le-ltb)

-- the name that was asked for is the one that is to be read, or a copy of it
pub configuration_long : (told : Option Contents) (name asked path : List ℕ) → asked ≡ name → path ≡ codes "-" →
    IfSome told (λ m. 1048576 < length (bytes_of m asked)) → IsRefused (tables_in name) told (Configuration 10 path)
unfolding read_or_refused first
configuration_long told name asked path a e h = search (arith, rules)

-- ## Captures are read in one way

-- the reader that begins at the front of a file
pub from_front : Reader
from_front = record { read = packets_of; spelt = spelt_is_read; faulty = fault_is_read }

pub one_answer : (r s : Reader) (bytes : List ℕ) → ((i : ℕ) → slice_index bytes i < 256) → r.read bytes ≡ s.read bytes
one_answer r s bytes are = ⊎_elim (λ (h : (packets : List Captured) × Spells bytes packets).
    r.spelt bytes h.0 h.1 ∙ sym (s.spelt bytes h.0 h.1)) (λ (h : (fault : PcapRefusal) × IsFaulty bytes fault).
    r.faulty bytes h.0 h.1 ∙ sym (s.faulty bytes h.0 h.1)) (spelt_or_faulty bytes are)

module _ (r : Reader) (name : List ℕ) (input limit : ℕ) (bytes : List ℕ) where
  pub capture_is : (told : Option Contents) (packets : List Captured) →
      IfSome told (λ m. file_in name input limit m ≡ Ok bytes) → Spells bytes packets
      → IfSome told (λ m. capture_in r name input limit m ≡ Ok packets)
  capture_is told packets at spelt = let read = r.spelt bytes packets spelt in grind (arith, common_steps)

  -- a refusal of the reading stops it for its fault, or for want of memory
  pub capture_halts : (p : Pace) (R : List ℕ → Type 0) (old new : Space) (found : Option PcapRefusal) →
      IfSome old.told (λ m. file_in name input limit m ≡ Ok bytes) → IfSome found (IsFaulty bytes)
      → Uncounted p (AnyName R) old.faults new.faults →
      Halts p (capture_in r name input limit) R old new (halt_for input found)
  capture_halts p R old new found at faulty kept = grind (arith, common_steps)
