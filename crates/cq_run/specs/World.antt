-- What a run finds and leaves: the file space, and sinks.
use Rattle.std.specs.Prelude.{◌≡◌, ℕ, List, Option}
use Rattle.cq_space.specs.Space.{Space}

-- what is known of a sink: the bytes that it took, where it tells them, and its count of faults
pub record Taken : Type 0 where
  pub bytes : Option (List ℕ)
  pub faults : ℕ

-- what is known of a sink, by its ghost members
abbrev pub taken_by : {S : Type 0} → (S → Option (List ℕ)) → (S → ℕ) → S → Taken
taken_by taken faults sink = record { bytes = taken sink; faults = faults sink }

-- the file space and standard output
pub record World : Type 0 where
  pub files : Space
  pub out : Taken

-- the same of a file space and a sink, by their ghost members
abbrev pub world : {F O : Type 0} → (F → Space) → (O → Option (List ℕ)) → (O → ℕ) → F → O → World
world space taken faults files out = record { files = space files; out = taken_by taken faults out }

-- told contents and standard output are as before
pub record IsUntouched (old new : World) : Type 0 where
  pub told : new.files.told ≡ old.files.told
  pub out : new.out ≡ old.out
