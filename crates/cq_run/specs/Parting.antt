-- What stopping a run and taking one up aims at, over the captures that were read: the text of the state in which a
-- run stands after so many slots, and what the run keeps that goes on from the state whose text it is. And why there
-- is none.
use Rattle.std.specs.Prelude.{◌≡◌, ℕ, ◌<◌, ◌≤◌, List, length}
use Rattle.cq_base.specs.declared.cell.TagFault.{TagFault}
use Rattle.cq_cells.specs.Scheduled.{schedule_of}
use Rattle.cq_pcap.specs.Captured.{Captured}
use Rattle.cq_resume.specs.Parts.{IsParted}
use Rattle.cq_resume.specs.Reading.{FailsFirst, HasOtherShape, IsRead, state_of}
use Rattle.cq_resume.specs.Resumed.{IsResumed, IsResumedFault, Kept}
use Rattle.cq_resume.specs.Switch.{Switch, switch_of}
use Rattle.cq_resume.specs.declared.taken.Taken.{Taken}
use Rattle.cq_route.specs.Tables.{classes_of}
use Rattle.cq_route.specs.declared.tables.Tables.{Tables}
use Rattle.cq_scfq.specs.Disciplines.{openings_of}
use Rattle.cq_simulate.specs.PartedRuns.{IsPartFault}
use Rattle.cq_simulate.specs.declared.refusal.RunRefusal.TheVariants as of_run
use Rattle.cq_state.specs.Refusals.{longest_text}
use Rattle.cq_state.specs.State.{state_text}
use Rattle.cq_state.specs.StateText.{IsStateFault}
use Rattle.cq_run.specs.declared.refusal.Refusal.{Refusal}
use Rattle.cq_run.specs.declared.refusal.Refusal.TheVariants.{State, Tag}
use Rattle.cq_run.specs.declared.refusal.StateFault.TheVariants.{Line, Long, Shape, Unsound}

-- the switch that these tables and captures describe
abbrev pub switch_over : Tables → List (List Captured) → Switch
switch_over t captures = switch_of t (schedule_of t captures)

-- ## Stopping

-- this is its state after so many slots
abbrev pub IsPartedAt : Tables → List (List Captured) → ℕ → Taken → Type 0
IsPartedAt t captures slots at = IsParted (switch_over t captures) (openings_of t.setup) slots at

-- the text of a state of it
abbrev pub text_at : Tables → List (List Captured) → Taken → List ℕ
text_at t captures at =
    state_text (state_of at.frozen at.sent at.note (schedule_of t captures).t0 (classes_of t.setup)
    (length (schedule_of t captures).came))

-- the text is that of this state, and no longer than a text may be
pub record IsPartText (t : Tables) (captures : List (List Captured)) (slots : ℕ) (text : List ℕ) : Type 0 where
  pub at : Taken
  pub parted : IsPartedAt t captures slots at
  pub told : text ≡ text_at t captures at
  pub short : length text ≤ longest_text

-- the text of this state is too long
pub record IsPartLong (t : Tables) (captures : List (List Captured)) (slots : ℕ) : Type 0 where
  pub at : Taken
  pub parted : IsPartedAt t captures slots at
  pub long : longest_text < length (text_at t captures at)

-- why there is no text: a tag fault of one of these slots, or the length of the text
abbrev pub IsPartRefusal : Tables → List (List Captured) → ℕ → Refusal → Type 0
IsPartRefusal t captures slots (Tag fault) =
    IsPartFault (switch_over t captures) (openings_of t.setup) slots (of_run.Tag fault)
IsPartRefusal t captures slots (State Long) = IsPartLong t captures slots
IsPartRefusal t captures slots _ = ⊥

-- ## Going on

-- the text is that of a sound state, from which the run goes on and keeps this
pub record IsResumedText (t : Tables) (captures : List (List Captured)) (text : List ℕ) (kept : Kept) : Type 0 where
  pub from : Taken
  pub read : IsRead (switch_over t captures) text from
  pub resumed : IsResumed (switch_over t captures) from kept

-- a tag fault of the run that goes on from the state whose text this is
pub record IsResumedTag (t : Tables) (captures : List (List Captured)) (text : List ℕ) (fault : TagFault) : Type 0 where
  pub from : Taken
  pub read : IsRead (switch_over t captures) text from
  pub stops : IsResumedFault (switch_over t captures) from fault

-- why there is no such run: a line of the text is not allowed; it is a state of another switch; a clause does not hold
-- of it; or a rank does not fit. A text that is too long is refused before
abbrev pub IsResumeRefusal : Tables → List (List Captured) → List ℕ → Refusal → Type 0
IsResumeRefusal t captures text (Tag fault) = IsResumedTag t captures text fault
IsResumeRefusal t captures text (State (Line n)) = IsStateFault text n
IsResumeRefusal t captures text (State Shape) = HasOtherShape (switch_over t captures) text
IsResumeRefusal t captures text (State (Unsound clause)) = FailsFirst (switch_over t captures) text clause
IsResumeRefusal t captures text _ = ⊥
