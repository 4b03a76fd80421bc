-- What a call that judges contents answers, and when. Such a call only reads.
use Rattle.std.specs.Prelude.{◌≡◌, ℕ, List, IsTrue, Option, IfSome, MatchOption, Result, Ok, Err, IfOk, IfErr, OnOk}
use Rattle.std.specs.FinMap.{remove}
use Rattle.cq_space.specs.Causes.{Rose}
use Rattle.cq_space.specs.Space.{Contents, Space, Closed}
use Rattle.cq_run.specs.declared.refusal.Refusal.{Refusal}
use Rattle.cq_run.specs.declared.refusal.Refusal.TheVariants.{Missing}
use Rattle.cq_run.specs.declared.stop.Halt.{Halt}
use Rattle.cq_run.specs.declared.stop.Halt.TheVariants.{Refused, Unread, NoMemory}
use Rattle.cq_run.specs.Pace.{Pace, Uncounted, AnyName}
use Rattle.cq_run.specs.Refusals.{meaning_of}

-- the contents are judged to be refused so
abbrev pub IsRefused : {A : Type 0} → (Contents → Result A Refusal) → Option Contents → Refusal → Type 0
IsRefused judge told refusal = MatchOption told (IsTrue (meaning_of refusal).untold) (λ m. judge m ≡ Err refusal)

-- the name is to be read, and all that is judged before it is accepted: if it were not there, it would be missed
abbrev pub IsToRead : {A : Type 0} → (Contents → Result A Refusal) → Option Contents → List ℕ → Type 0
IsToRead judge told name = IfSome told (λ m. judge (remove m name) ≡ Err (Missing name))

-- why judging ends without an answer: a fault is counted where a name is unread, and nowhere else but where files are
-- read ahead. There the refusal of an input's capture, or want of memory, may be answered though a name behind it was
-- unread. What more is known of such a name is the parameter: that it may be read, and that it was a call to read it
-- that failed
abbrev pub Halts : {A : Type 0} → Pace → (Contents → Result A Refusal) → (List ℕ → Type 0) → Space → Space → Halt
    → Type 0
Halts pace judge unread old new (Refused refusal) = IsRefused judge old.told refusal
    × Uncounted pace (IsTrue (meaning_of refusal).outruns × AnyName unread) old.faults new.faults
Halts pace judge unread old new (Unread name) = Rose old.faults new.faults × unread name × IsToRead judge old.told name
Halts pace judge unread old new NoMemory = Uncounted pace (AnyName unread) old.faults new.faults

-- why a computation ends without an answer: it is refused so, or memory ran out
abbrev pub IsHaltOf : {A : Type 0} → Result A Refusal → Halt → Type 0
IsHaltOf judged (Refused refusal) = (judged ≡ Err refusal) × IsTrue (meaning_of refusal).untold
IsHaltOf judged (Unread name) = ⊥
IsHaltOf judged NoMemory = Unit {0}

-- what a call that judges contents answers and leaves
pub record Judges {A : Type 0} (pace : Pace) (judge : Contents → Result A Refusal) (unread : List ℕ → Type 0)
    (old new : Space) (result : Result A Halt) : Type 0 where
  pub ok : IfOk result (λ x. IfSome old.told (λ m. judge m ≡ Ok x))
  pub halt : IfErr result (Halts pace judge unread old new)
  pub closed : new.mode ≡ Closed
  pub told : new.told ≡ old.told
  pub uncounted : OnOk result (new.faults ≡ old.faults)
