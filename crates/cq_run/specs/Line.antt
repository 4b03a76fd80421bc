-- The line that tells why a run stopped, and what a sink takes of it.
use Rattle.std.specs.Prelude.{◌≡◌, ◌⊎◌, ℕ, List, [], ◌∷◌, ◌++◌, take, Option, Result, Ok, Err, MatchResult, codes}
use Rattle.std.specs.Io.KnownBytes.{append_known}
use Rattle.cq_space.specs.Causes.{Rose, HasCause}
use Rattle.cq_run.specs.declared.stop.Halt.{Halt}
use Rattle.cq_run.specs.declared.stop.Halt.TheVariants.{Refused, Unread, NoMemory}
use Rattle.cq_run.specs.declared.stop.Unwritten.{Unwritten}
use Rattle.cq_run.specs.declared.stop.Unwritten.TheVariants.{File, Output}
use Rattle.cq_run.specs.declared.stop.Stop.{Stop}
use Rattle.cq_run.specs.declared.stop.Stop.TheVariants.{Halted, Cut}
use Rattle.cq_run.specs.Refusals.{meaning_of}
use Rattle.cq_run.specs.World.{Taken, taken_by}

-- what the line says of a halt
abbrev pub halt_text : Halt → List ℕ
halt_text (Refused refusal) = (meaning_of refusal).text
halt_text (Unread name) = codes "read fault: " ++ name
halt_text NoMemory = codes "no memory"

-- what the line says of what was not written whole; `-` is standard output
abbrev pub unwritten_text : Unwritten → List ℕ
unwritten_text (File name) = codes "write fault: " ++ name
unwritten_text Output = codes "write fault: -"

-- what the line says
abbrev pub stop_text : Stop → List ℕ
stop_text (Halted halt) = halt_text halt
stop_text (Cut at) = unwritten_text at

-- a text, ended by a line feed
unfoldable pub line : List ℕ → List ℕ
line text = text ++ 10 ∷ []

-- a sink took the text, or, where its count of faults rose, a front of it
abbrev pub TakesText : List ℕ → Taken → Taken → Type 0
TakesText text old new =
    (new.bytes ≡ append_known old.bytes text)
    ⊎ (Rose old.faults new.faults × ((n : ℕ) × (new.bytes ≡ append_known old.bytes (take n text))))

-- what the error sink takes of an end: nothing where the work is done, and else one line
abbrev pub Tells : Result (Unit {0}) Stop → Taken → Taken → Type 0
Tells (Ok x) old new = new ≡ old
Tells (Err stop) old new = TakesText (line (stop_text stop)) old new

-- what a call that puts the text into a sink answers and leaves
pub record Puts {E : Type 0} (text : List ℕ) (old new : Taken) (result : Result (Unit {0}) E) : Type 0 where
  pub bytes : MatchResult result (λ _. new.bytes ≡ append_known old.bytes text)
      (λ _. (n : ℕ) × (new.bytes ≡ append_known old.bytes (take n text)))
  pub cause : HasCause old.faults new.faults result

-- the same of a sink, by its ghost members
abbrev pub Says : {S E : Type 0} → (S → Option (List ℕ)) → (S → ℕ) → List ℕ → S → S → Result (Unit {0}) E → Type 0
Says taken faults text old new result = Puts text (taken_by taken faults old) (taken_by taken faults new) result
