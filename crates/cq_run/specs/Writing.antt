-- What is written of a plan, whole or cut short.
use Rattle.std.specs.Prelude.{◌≡◌, ◌⊎◌, ℕ, List, [], ◌∷◌, Option, take}
use Rattle.std.specs.Io.KnownBytes.{append_known}
use Rattle.cq_space.specs.Causes.{Rose}
use Rattle.cq_space.specs.Space.{Contents, Space, replaced, IsCutAt}
use Rattle.cq_run.specs.declared.stop.Unwritten.{Unwritten}
use Rattle.cq_run.specs.declared.stop.Unwritten.TheVariants.{File, Output}
use Rattle.cq_run.specs.Plan.{Plan}
use Rattle.cq_run.specs.World.{World}

-- told contents after these names were given these bytes, in order
abbrev pub all_replaced : List (List ℕ × List ℕ) → Option Contents → Option Contents
all_replaced [] told = told
all_replaced (w ∷ ws) told = all_replaced ws (replaced w.0 w.1 told)

-- what was to be written is written, and no fault was counted
pub record IsDone (plan : Plan) (old new : World) : Type 0 where
  pub told : new.files.told ≡ all_replaced plan.writes old.files.told
  pub out : new.out.bytes ≡ append_known old.out.bytes plan.text
  pub files_uncounted : new.files.faults ≡ old.files.faults
  pub out_uncounted : new.out.faults ≡ old.out.faults

-- a file was written whole, and no fault was counted
pub record IsWritten (write : List ℕ × List ℕ) (old new : Space) : Type 0 where
  pub told : new.told ≡ replaced write.0 write.1 old.told
  pub uncounted : new.faults ≡ old.faults

-- writing a file was cut short: the count of faults rose since it was started, and it is as before or has a front of
-- its bytes
pub record IsCutShort (write : List ℕ × List ℕ) (old new : Space) : Type 0 where
  pub cause : Rose old.faults new.faults
  pub told : IsCutAt write.0 write.1 old.told new.told

-- writing stopped at the file of this name: the files before it are whole, it was cut short, and those after it are
-- as before
abbrev pub IsCutAtFile : List (List ℕ × List ℕ) → List ℕ → Space → Space → Type 0
IsCutAtFile [] name old new = ⊥
IsCutAtFile (w ∷ ws) name old new =
    ((w.0 ≡ name) × IsCutShort w old new) ⊎ ((mid : Space) × IsWritten w old mid × IsCutAtFile ws name mid new)

-- writing stopped at standard output: all files are whole, its count of faults rose and theirs did not, and it took a
-- front of the text
pub record IsCutAtOutput (plan : Plan) (old new : World) : Type 0 where
  pub cause : Rose old.out.faults new.out.faults
  pub told : new.files.told ≡ all_replaced plan.writes old.files.told
  pub files_uncounted : new.files.faults ≡ old.files.faults
  pub out : (n : ℕ) × (new.out.bytes ≡ append_known old.out.bytes (take n plan.text))

-- where writing stopped, and what it left; standard output comes after all files. What is known of the call that
-- failed are the parameters: that it was one to write the name, or one on standard output
abbrev pub IsCut : (List ℕ → Type 0) → Type 0 → Plan → World → World → Unwritten → Type 0
IsCut unwritten untaken plan old new (File name) =
    IsCutAtFile plan.writes name old.files new.files × (new.out ≡ old.out) × unwritten name
IsCut unwritten untaken plan old new Output = IsCutAtOutput plan old new × untaken
