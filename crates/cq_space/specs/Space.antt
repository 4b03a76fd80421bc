-- What a file space means, and what its calls do to that meaning.
use Rattle.std.specs.Prelude.{◌≡◌, ℕ, ◌<◌, ◌≤◌, Bool, true, false, List, [], ◌++◌, length, take, ◌⊎◌, Option, None, IfSome, OnSome, IsSomeAnd, unwrap_or}
use Rattle.std.specs.Ordering.{nat_cmp}
use Rattle.std.specs.Cmp.Lexicographic.{slice_cmp}
use Rattle.std.specs.Option.{option_map}
use Rattle.std.specs.FinMap.{FinMap, get, insert, code}
use Rattle.std.specs.Coded.{Coded, coded_list, coded_ℕ}

-- the bytes of each name that has some
abbrev pub Contents : Type 0
Contents = FinMap (slice_cmp nat_cmp) (List ℕ)

-- how a proof tells contents apart
abbrev pub contents_code : Coded Contents
contents_code = code (coded_list coded_ℕ) (coded_list coded_ℕ)

-- the bytes of a name, none where there is no such name
abbrev pub bytes_of : Contents → List ℕ → List ℕ
bytes_of m name = unwrap_or (get m name) []

-- closed, reading a name of which these bytes are left, or writing a name
pub data Mode : Type 0 where
  Closed : Mode
  Reading : (name left : List ℕ) → Mode
  Writing : (name : List ℕ) → Mode

-- the meaning of a file space: its mode, its contents where it tells them, and its count of faults
pub record Space : Type 0 where
  pub mode : Mode
  pub told : Option Contents
  pub faults : ℕ

-- the mode is reading
abbrev pub IsReading : Mode → Type 0
IsReading Closed = ⊥
IsReading (Reading name left) = Unit {0}
IsReading (Writing name) = ⊥

-- the mode is writing
abbrev pub IsWriting : Mode → Type 0
IsWriting Closed = ⊥
IsWriting (Reading name left) = ⊥
IsWriting (Writing name) = Unit {0}

-- the name that is read
abbrev pub read_name : Mode → List ℕ
read_name Closed = []
read_name (Reading name left) = name
read_name (Writing name) = []

-- the name that is written
abbrev pub written_name : Mode → List ℕ
written_name Closed = []
written_name (Reading name left) = []
written_name (Writing name) = name

-- reading the name began, of all its bytes where contents are told
pub record BeginsReading (told : Option Contents) (name : List ℕ) (mode : Mode) : Type 0 where
  pub reading : IsReading mode
  pub named : read_name mode ≡ name
  pub whole : IfSome told (λ m. IsSomeAnd (get m name) (λ bytes. mode ≡ Reading name bytes))

-- contents are told, and there is no such name
abbrev pub Lacks : Option Contents → List ℕ → Type 0
Lacks told name = IsSomeAnd told (λ m. get m name ≡ None)

-- what start_read answered
abbrev pub Finds : Space → Space → List ℕ → Bool → Type 0
Finds old new name true = BeginsReading old.told name new.mode
Finds old new name false = (new.mode ≡ Closed) × (new.faults ≡ old.faults) × Lacks old.told name

-- the piece is next of what is left, and there is none exactly at the end
abbrev pub TakesNext : Mode → List ℕ → Mode → Type 0
TakesNext (Reading name left) piece (Reading name' left') =
    (name' ≡ name) × (left ≡ piece ++ left') × (piece ≡ [] → left' ≡ [])
TakesNext _ piece _ = ⊥

-- so many bytes stand at the front of the buffer, and it goes on reading the name; where contents are told, they are
-- next
pub record ReadsOn (old new : Space) (buf : List ℕ) (n : ℕ) : Type 0 where
  pub within : n ≤ length buf
  pub reading : IsReading new.mode
  pub named : read_name new.mode ≡ read_name old.mode
  pub next : OnSome old.told (TakesNext old.mode (take n buf) new.mode)

-- told contents after the name is emptied
abbrev pub emptied : List ℕ → Option Contents → Option Contents
emptied name told = option_map (λ m. insert m name []) told

-- writing the name began, with no bytes
pub record BeginsWriting (old new : Space) (name : List ℕ) : Type 0 where
  pub mode : new.mode ≡ Writing name
  pub told : new.told ≡ emptied name old.told

-- told contents after the piece is appended to the name's bytes
abbrev pub appended : List ℕ → List ℕ → Option Contents → Option Contents
appended name piece told = option_map (λ m. insert m name (bytes_of m name ++ piece)) told

-- told contents after the name was given these bytes
abbrev pub replaced : List ℕ → List ℕ → Option Contents → Option Contents
replaced name bytes told = option_map (λ m. insert m name bytes) told

-- the first n of the bytes were appended, at least one, and writing goes on
pub record Appends (old new : Space) (bytes : List ℕ) (n : ℕ) : Type 0 where
  pub some : 0 < n
  pub within : n ≤ length bytes
  pub mode : new.mode ≡ old.mode
  pub told : new.told ≡ appended (written_name old.mode) (take n bytes) old.told

-- after a write that was cut short: as before, or the front of the bytes
abbrev pub IsCutAt : List ℕ → List ℕ → Option Contents → Option Contents → Type 0
IsCutAt name bytes old new = (new ≡ old) ⊎ ((n : ℕ) × (new ≡ replaced name (take n bytes) old))

-- nothing is open afterwards, and contents are as before
pub record Closes (old new : Space) : Type 0 where
  pub mode : new.mode ≡ Closed
  pub told : new.told ≡ old.told
