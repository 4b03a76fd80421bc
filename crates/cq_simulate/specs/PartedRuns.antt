-- Runs of a configured switch in parts.
use Rattle.std.specs.Prelude.{ℕ, List, ⊤}
use Rattle.cq_resume.specs.Parts.{IsPartedFault}
use Rattle.cq_resume.specs.Reading.{ComesTo}
use Rattle.cq_resume.specs.Resumed.{IsResumedFault, Kept}
use Rattle.cq_resume.specs.Switch.{Switch}
use Rattle.cq_resume.specs.declared.taken.Taken.{Taken}
use Rattle.cq_simulate.specs.declared.fabric_run.FabricRun.{FabricRun as Run}
use Rattle.cq_simulate.specs.declared.parted_run.Parted.{Parted}
use Rattle.cq_simulate.specs.declared.refusal.RunRefusal.{RunRefusal}
use Rattle.cq_simulate.specs.declared.refusal.RunRefusal.TheVariants as refusal
use Rattle.cq_state.specs.declared.state.State.{State}

-- a run that stands still, as one that can be taken up
abbrev pub taken_at : Parted → Taken
taken_at run = record { frozen = run.frozen; sent = run.sent.items; note = run.note.items }

-- what a run kept
abbrev pub kept_of : Run → Kept
kept_of run =
    record { sent = run.sent.items; note = run.note.items; figures = run.figures; refused = run.refused.items }

-- the run meets this tag fault in one of the slots before the last; want of memory may come at any time
abbrev pub IsPartFault : Switch → List (List ℕ) → ℕ → RunRefusal → Type 0
IsPartFault w ranks slots (refusal.Tag fault) = IsPartedFault w ranks slots fault
IsPartFault w ranks slots refusal.NoMemory = ⊤

-- the resumed run meets it
abbrev pub IsResumeFault : Switch → Taken → RunRefusal → Type 0
IsResumeFault w taken (refusal.Tag fault) = IsResumedFault w taken fault
IsResumeFault w taken refusal.NoMemory = ⊤

-- it is what a sound state comes to
pub record CanBeTakenUp (w : Switch) (taken : Taken) : Type 0 where
  pub state : State
  pub comes : ComesTo w state taken
