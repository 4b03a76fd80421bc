-- What a stopped run leaves is written and read as itself.
use Rattle.std.specs.Prelude.{◌≡◌, ℕ, ◌<◌, ◌^◌, List}
use Rattle.cq_base.specs.declared.cell.TagFault.{TagFault}
use Rattle.cq_cells.specs.Scheduled.{Scheduled}
use Rattle.cq_ideal.specs.Refused.{refused_counts}
use Rattle.cq_laws.specs.LimitedFabric.{LimitedRecord, slots_in}
use Rattle.cq_laws.specs.Measures.{figures_of}
use Rattle.cq_laws.specs.Records.{transfers_of_run}
use Rattle.cq_resume.specs.Parts.{IsParted, IsWholeFault}
use Rattle.cq_resume.specs.Reading.{IsRead, IsRefusal}
use Rattle.cq_resume.specs.Resumed.{IsResumed, IsResumedFault, Kept}
use Rattle.cq_resume.specs.Switch.{IsScheduleOf, Switch, switch_of}
use Rattle.cq_resume.specs.declared.refusal.StateRefusal.{StateRefusal}
use Rattle.cq_resume.specs.declared.refusal.StateRefusal.TheVariants as refusal
use Rattle.cq_resume.specs.declared.taken.Taken.{Taken}
use Rattle.cq_route.specs.Tables.{AreTables, ports_of}
use Rattle.cq_route.specs.declared.tables.Tables.{Tables}
use Rattle.cq_scfq.specs.Disciplines.{openings_of}
use Rattle.cq_simulate.specs.FabricRuns.{IsFabricRun, departures_in_run, refused_in_run}
use Rattle.cq_state.specs.State.{state_text}
use Rattle.cq_stopped.specs.Stopped.{AreRecorded, told_state}

-- the text is read as this and as nothing else, and is refused for nothing but want of memory
pub record IsReadAs (w : Switch) (text : List ℕ) (at : Taken) : Type 0 where
  pub read : IsRead w text at
  pub alone : (x : Taken) → IsRead w text x → x ≡ at
  pub never_refused : (r : StateRefusal) → IsRefusal w text r → r ≡ refusal.NoMemory

-- So it is with the text of what a run of a configured switch leaves after any number of slots.
abbrev pub StoppedRunsAreRead : Type 0
StoppedRunsAreRead =
    (t : Tables) (s : Scheduled) (slots : ℕ) (at : Taken) (made : IsScheduleOf t s) → AreTables t →
    AreRecorded t s made → slots < 2 ^ 63 → IsParted (switch_of t s) (openings_of t.setup) slots at →
    IsReadAs (switch_of t s) (state_text (told_state (switch_of t s) at)) at

-- what the crossbar run of these records keeps
abbrev pub kept_in_run : Tables → List LimitedRecord → Kept
kept_in_run t rs =
    record {
      sent = departures_in_run rs;
      note = transfers_of_run (slots_in rs);
      figures = figures_of (ports_of t.setup) (slots_in rs);
      refused = refused_counts t.limits (refused_in_run rs);
    }

-- Going on from there keeps what the run keeps, or meets the tag fault that it meets, and no other. Where it comes to
-- its end, so does the run, and what is kept is what that run keeps.
pub record GoesOnAsRun (t : Tables) (s : Scheduled) (x : Taken) : Type 0 where
  pub run : (rs : List LimitedRecord) (kept : Kept) → IsFabricRun t s.came rs → IsResumed (switch_of t s) x kept →
      kept ≡ kept_in_run t rs
  pub resumes : (rs : List LimitedRecord) → IsFabricRun t s.came rs → IsResumed (switch_of t s) x (kept_in_run t rs)
  pub ends : (kept : Kept) → IsResumed (switch_of t s) x kept →
      (rs : List LimitedRecord) × IsFabricRun t s.came rs × (kept ≡ kept_in_run t rs)
  pub fault : (fault : TagFault) → IsWholeFault (switch_of t s) (openings_of t.setup) fault →
      IsResumedFault (switch_of t s) x fault
  pub whole_fault : (fault : TagFault) → IsResumedFault (switch_of t s) x fault →
      IsWholeFault (switch_of t s) (openings_of t.setup) fault

-- So it is with whatever is read of that text.
abbrev pub ReadRunsGoOn : Type 0
ReadRunsGoOn =
    (t : Tables) (s : Scheduled) (slots : ℕ) (at x : Taken) (made : IsScheduleOf t s) → AreTables t →
    AreRecorded t s made → slots < 2 ^ 63 → IsParted (switch_of t s) (openings_of t.setup) slots at →
    IsRead (switch_of t s) (state_text (told_state (switch_of t s) at)) x → GoesOnAsRun t s x
