-- What a stopped run leaves can be taken up.
use Rattle.std.specs.Prelude.{ℕ, ◌<◌, ◌^◌, length}
use Rattle.cq_cells.specs.Schedule.{packets_of}
use Rattle.cq_cells.specs.Scheduled.{Scheduled}
use Rattle.cq_cells.specs.Traffic.{IsRecorded}
use Rattle.cq_resume.specs.Parts.{IsParted}
use Rattle.cq_resume.specs.Reading.{ComesTo, state_of}
use Rattle.cq_resume.specs.Switch.{IsScheduleOf, Switch, switch_of}
use Rattle.cq_resume.specs.declared.taken.Taken.{Taken}
use Rattle.cq_route.specs.Tables.{AreTables}
use Rattle.cq_route.specs.declared.tables.Tables.{Tables}
use Rattle.cq_scfq.specs.Disciplines.{openings_of}
use Rattle.cq_state.specs.declared.state.State.{State}

-- the state that tells of what a run of this switch left
abbrev pub told_state : Switch → Taken → State
told_state w at = state_of at.frozen at.sent at.note w.t0 w.classes (length w.came)

-- its numbers are in range, it is a sound state of the switch, and it comes to what was left
abbrev pub CanBeTakenUp : Switch → Taken → Type 0
CanBeTakenUp w at = ComesTo w (told_state w at) at

-- each capture of the schedule is one that was read of a file
abbrev pub AreRecorded : (t : Tables) (s : Scheduled) → IsScheduleOf t s → Type 0
AreRecorded t s made = (i : ℕ) → i < length made.captures → IsRecorded (packets_of made.captures i)

-- So it is after any number of slots of a run of a configured switch.
abbrev pub StoppedRunsAreSound : Type 0
StoppedRunsAreSound =
    (t : Tables) (s : Scheduled) (slots : ℕ) (at : Taken) (made : IsScheduleOf t s) → AreTables t →
    AreRecorded t s made → slots < 2 ^ 63 → IsParted (switch_of t s) (openings_of t.setup) slots at →
    CanBeTakenUp (switch_of t s) at
