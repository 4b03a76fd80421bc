-- Only proofs use this.
-- A decoding that was begun.
use Rattle.std.specs.Prelude.{◌≡◌, ℕ, List, [], ◌∷◌, Option, None, Some}
use Rattle.cq_route.specs.declared.tables.PortRow.{PortRow}
use Rattle.cq_space.specs.Space.{Contents, Space}
use Rattle.cq_stream.specs.declared.item.Order.TheVariants.{Send}
use Rattle.cq_stream.specs.Rings.{IsPairOf, bytes_to_read, taken, told}
use Rattle.cq_run.specs.declared.decoding.Decoding.{Decoding}
use Rattle.cq_run.specs.declared.decoding.Decoding.TheVariants.{There, Here}
use Rattle.cq_run.specs.Input.{IsFileOf}
use Rattle.cq_run.specs.Running.{reader_of}

-- the bytes that are decoded
abbrev pub source : Decoding → List ℕ
source (There intake reader) = bytes_to_read (reader_of reader)
source (Here bytes) = bytes.items

-- its reader is the one of this intake, was told to send, and nothing was taken yet of what it sends
abbrev pub IsBegun : Decoding → Type 0
IsBegun (There intake reader) =
    IsPairOf (reader_of reader) intake × (told intake ≡ Send ∷ []) × (taken intake ≡ [])
IsBegun (Here bytes) = Unit {0}

-- what was begun for an input: the decoding of its file, and nothing where it has none
abbrev pub IsBegunFor : Option (List ℕ) → ℕ → ℕ → Option Contents → Option Decoding → Type 0
IsBegunFor None input limit contents None = Unit {0}
IsBegunFor (Some name) input limit contents (Some decoding) =
    IsBegun decoding × IsFileOf name input limit contents (source decoding)
IsBegunFor _ input limit contents _ = ⊥

-- the file of a port was read with no fault, and this was begun for its input
pub record HasBegun (row : PortRow) (input limit : ℕ) (old new : Space) (begun : Option Decoding) : Type 0 where
  pub decoding : IsBegunFor row.read input limit old.told begun
  pub uncounted : new.faults ≡ old.faults
