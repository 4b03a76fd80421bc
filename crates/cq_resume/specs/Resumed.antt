-- Runs that are stopped after some slots and go on from there.
use Rattle.std.specs.Prelude.{◌≡◌, ℕ, ◌+◌, ◌≤◌, ◌++◌, fold, List, length, Option, take}
use Rattle.cq_base.specs.Arriving.{end_of}
use Rattle.cq_base.specs.declared.cell.Cell.{Cell}
use Rattle.cq_base.specs.declared.cell.Departure.{Departure}
use Rattle.cq_base.specs.declared.cell.TagFault.{TagFault}
use Rattle.cq_base.specs.declared.cell.Transfer.{Transfer}
use Rattle.cq_base.specs.declared.figures.Figures.{Figures}
use Rattle.cq_ideal.specs.declared.refused.Refused.{Refused}
use Rattle.cq_ideal.specs.Admission.{Marked}
use Rattle.cq_ideal.specs.Ending.{arriving_from}
use Rattle.cq_ideal.specs.IdealRun.{departures_of}
use Rattle.cq_ideal.specs.Refused.{refused_in, with_refused}
use Rattle.cq_laws.specs.Fabric.{Fabric, IsEmptyFabric}
use Rattle.cq_laws.specs.Frozen.{marked_in}
use Rattle.cq_laws.specs.LimitedFabric.{LimitedFabricRun, LimitedFabricStops, LimitedRecord, admissions_in, slots_in}
use Rattle.cq_laws.specs.Measures.{figures_after}
use Rattle.cq_laws.specs.Records.{gone_in, transfers_of_run}
use Rattle.cq_prefs.specs.Pairing.{IsInputBest}
use Rattle.cq_resume.specs.declared.taken.Taken.{Taken}
use Rattle.cq_resume.specs.Switch.{Switch}

-- a run of this switch, from a slot on
abbrev pub Runs : Switch → ℕ → List (List (Option Cell)) → Marked Fabric → List LimitedRecord → Marked Fabric → Type 0
Runs w slot traffic old rs new = LimitedFabricRun IsInputBest w.limits w.machines slot traffic old rs new

-- one that stops at a tag fault
abbrev pub Stops : Switch → ℕ → List (List (Option Cell)) → Marked Fabric → List LimitedRecord → TagFault → Type 0
Stops w slot traffic old rs fault = LimitedFabricStops IsInputBest w.limits w.machines slot traffic old rs fault

-- the first m of these records run from this slot and this state to s
abbrev pub AfterFrom : Switch → ℕ → Marked Fabric → List LimitedRecord → ℕ → Marked Fabric → Type 0
AfterFrom w next start rs m s = Runs w next (arriving_from w.came next m) start (take m rs) s

-- the records of a run from this slot and this state to its end: no later slot has an arrival and no cell waits, and
-- both hold after no fewer slots
pub record RunsOn (w : Switch) (next : ℕ) (start : Marked Fabric) (rs : List LimitedRecord) (end : Marked Fabric) :
    Type 0 where
  pub after : AfterFrom w next start rs (length rs) end
  pub all_came : end_of w.came ≤ next + length rs
  pub empty : IsEmptyFabric end.state
  pub first : (m : ℕ) (s : Marked Fabric) → AfterFrom w next start rs m s → end_of w.came ≤ next + m →
      IsEmptyFabric s.state → length rs ≤ m

-- what a run leaves: its departures, its transfers, its figures, and what was refused at each output that has a limit
pub record Kept : Type 0 where
  pub sent : List Departure
  pub note : List Transfer
  pub figures : Figures
  pub refused : List Refused

-- what is kept, with the records of these slots behind it
abbrev pub kept_on : Kept → ℕ → List LimitedRecord → Kept
kept_on k next rs =
    record {
      sent = k.sent ++ departures_of next (gone_in (slots_in rs));
      note = k.note ++ transfers_of_run (slots_in rs);
      figures = fold figures_after k.figures (slots_in rs);
      refused = with_refused (refused_in (admissions_in rs)) k.refused;
    }

-- what a run that stands still has kept
abbrev pub kept_in : Taken → Kept
kept_in t = record { sent = t.sent; note = t.note; figures = t.frozen.figures; refused = t.frozen.refused }

-- the resumed run: from the state that was taken up, the records to the end; what was kept before goes on with them
pub record IsResumed (w : Switch) (from : Taken) (kept : Kept) : Type 0 where
  pub records : List LimitedRecord
  pub end : Marked Fabric
  pub runs : RunsOn w from.frozen.next (marked_in from.frozen) records end
  pub kept_is : kept ≡ kept_on (kept_in from) from.frozen.next records

-- or it meets a tag fault first
pub record IsResumedFault (w : Switch) (from : Taken) (fault : TagFault) : Type 0 where
  pub count : ℕ
  pub records : List LimitedRecord
  pub stops : Stops w from.frozen.next (arriving_from w.came from.frozen.next count) (marked_in from.frozen) records
      fault

-- From a state that was taken up, whether a run left it or not, there is one answer: all that is kept to the end is the
-- same, all tag faults are, and where one is met no run comes to its end.
pub record IsOneResumed : Type 0 where
  pub kept : (w : Switch) (from : Taken) (k l : Kept) → IsResumed w from k → IsResumed w from l → k ≡ l
  pub fault : (w : Switch) (from : Taken) (u v : TagFault) → IsResumedFault w from u → IsResumedFault w from v → u ≡ v
  pub never_both : (w : Switch) (from : Taken) (k : Kept) (u : TagFault) → IsResumed w from k →
      IsResumedFault w from u → ⊥
