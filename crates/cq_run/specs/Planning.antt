-- What judging a command comes to: a plan that meets what is aimed at, or why there is none.
use Rattle.std.specs.Prelude.{◌≡◌, ◌<◌, ◌^◌, ◌⊎◌, ℕ, List, IsTrue, Option, None, Some, MatchOption, Result, Ok, Err, IsOkAnd}
use Rattle.std.specs.FinMap.{empty}
use Rattle.std.specs.Int.{IsInRange}
use Rattle.cq_base.specs.Limits.{most_ports, most_soak_slots}
use Rattle.cq_space.specs.Space.{Closed, Contents, Space}
use Rattle.cq_words.specs.declared.command.Command.{Command}
use Rattle.cq_words.specs.declared.command.Command.TheVariants.{Pass, Check, Ideal, Run, Soak, Audit, Part, Resume}
use Rattle.cq_run.specs.declared.refusal.Refusal.{Refusal}
use Rattle.cq_run.specs.declared.stop.Halt.{Halt}
use Rattle.cq_run.specs.declared.stop.Halt.TheVariants.{Refused, Unread, NoMemory}
use Rattle.cq_run.specs.Aim.{Aim, Denies, Meets}
use Rattle.cq_run.specs.Judging.{Halts, Judges}
use Rattle.cq_run.specs.Pace.{Pace}
use Rattle.cq_run.specs.Plan.{Plan}
use Rattle.cq_run.specs.Refusals.{meaning_of}

-- ## An aim that is denied

-- the contents come to an aim that is denied so
abbrev pub IsDenial : (Contents → Result Aim Refusal) → Option Contents → Refusal → Type 0
IsDenial judge told refusal =
    MatchOption told (IsTrue (meaning_of refusal).untold) (λ m. IsOkAnd (judge m) (λ aim. Denies aim refusal))

-- judging ends so: no fault is counted, and all that was to be read was accepted
abbrev pub DenialHalts : (Contents → Result Aim Refusal) → Space → Space → Halt → Type 0
DenialHalts judge old new (Refused refusal) = IsDenial judge old.told refusal × (new.faults ≡ old.faults)
DenialHalts judge old new (Unread name) = ⊥
DenialHalts judge old new NoMemory = ⊥

-- what a call that denies answers and leaves
pub record EndsDenied (judge : Contents → Result Aim Refusal) (old new : Space) (halt : Halt) : Type 0 where
  pub halts : DenialHalts judge old new halt
  pub closed : new.mode ≡ Closed
  pub told : new.told ≡ old.told

-- why judging any command ends without a plan
abbrev pub CommandHalts : Pace → (Contents → Result Aim Refusal) → (List ℕ → Type 0) → Space → Space → Halt → Type 0
CommandHalts pace judge unread old new halt = Halts pace judge unread old new halt ⊎ DenialHalts judge old new halt

-- what a call that judges any command answers and leaves: a plan that meets what is aimed at, or why there is none
abbrev pub Decides : Pace → (Contents → Result Aim Refusal) → (List ℕ → Type 0) → Space → Space → Result Plan Halt
    → Type 0
Decides pace judge unread old new (Ok plan) = (aim : Aim) × Meets aim plan × Judges pace judge unread old new (Ok aim)
Decides pace judge unread old new (Err halt) =
    Judges pace judge unread old new (Err halt) ⊎ EndsDenied judge old new halt

-- ## What a command knows

-- the file space as a command knows it. One that reads nothing comes to the same whatever the contents, told or not
abbrev pub known_to : Command → Space → Space
known_to (Pass from to) s = s
known_to (Check config) s = s
known_to (Ideal config) s = s
known_to (Run config) s = s
known_to (Audit config) s = s
known_to (Part config slots state) s = s
known_to (Resume config state) s = s
known_to (Soak seed ports slots) s = record { mode = s.mode; told = Some empty; faults = s.faults }

-- the contents on which the words are judged
abbrev pub known_by : Option Command → Space → Option Contents
known_by None s = s.told
known_by (Some command) s = (known_to command s).told

-- the numbers of the command are in their ranges
abbrev pub IsWithinRange : Command → Type 0
IsWithinRange (Pass from to) = Unit {0}
IsWithinRange (Check config) = Unit {0}
IsWithinRange (Ideal config) = Unit {0}
IsWithinRange (Run config) = Unit {0}
IsWithinRange (Audit config) = Unit {0}
IsWithinRange (Part config slots state) = slots < 2 ^ 63
IsWithinRange (Resume config state) = Unit {0}
IsWithinRange (Soak seed ports slots) = IsInRange 1 most_ports ports × IsInRange 1 most_soak_slots slots
