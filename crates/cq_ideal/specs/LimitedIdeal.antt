-- The ideal switch where outputs have limits: what is admitted of a slot's arrivals goes through the slot without
-- limits.
use Rattle.std.specs.Prelude.{◌≡◌, ℕ, ◌+◌, List, [], ◌∷◌, length, map, replicate, IfOk, Option, None, Result, Ok, Err}
use Rattle.cq_base.specs.declared.cell.Cell.{Cell}
use Rattle.cq_base.specs.declared.cell.Queued.{Queued}
use Rattle.cq_base.specs.declared.cell.TagFault.{TagFault}
use Rattle.cq_base.specs.Arrivals.{no_arrivals}
use Rattle.cq_base.specs.Arriving.{Arrival, traffic_of}
use Rattle.cq_rank.specs.Machine.{Machine}
use Rattle.cq_ideal.specs.Admission.{Admission, Marked, NoLimits, admission, marked, nothing_refused, unmarked}
use Rattle.cq_ideal.specs.IdealSlot.{IdealState, Sent, ideal_slot}
use Rattle.cq_ideal.specs.IdealRun.{IsEmptyIdeal, Ran, ideal_run, empty_ideal}

-- an ideal output holds the cells of its list
abbrev pub ideal_held : IdealState → List ℕ
ideal_held s = map length s.lists

-- what the switch admits of a slot's arrivals
abbrev pub ideal_admission : List (Option ℕ) → List (Option Cell) → Marked IdealState → Admission
ideal_admission limits cells old = admission limits (ideal_held old.state) old.marks cells

-- what a slot comes to: the admission, the cell that each output sent, if it sent one, and the state after it
pub record LimitedSent : Type 0 where
  pub admission : Admission
  pub gone : List (Option Queued)
  pub after : Marked IdealState

-- a slot of the admitted cells, with the admission's marks
abbrev pub with_admission : Admission → Result Sent TagFault → Result LimitedSent TagFault
with_admission a (Ok sent) = Ok (record { admission = a; gone = sent.gone; after = marked a.marks sent.after })
with_admission a (Err fault) = Err fault

-- one slot with these arrivals
unfoldable pub limited_slot : List (Option ℕ) → List Machine → ℕ → List (Option Cell) → Marked IdealState →
    Result LimitedSent TagFault
limited_slot limits ms slot cells old =
    let a = ideal_admission limits cells old in with_admission a (ideal_slot ms slot a.cells old.state)

-- what came of a run: per slot the admission, and per slot and output the cell that was sent, if one was, and the
-- state at its end
pub record LimitedRan : Type 0 where
  pub admissions : List Admission
  pub gone : List (List (Option Queued))
  pub after : Marked IdealState

-- a slot in front of those that follow
abbrev pub in_front : LimitedSent → LimitedRan → LimitedRan
in_front sent ran =
    record { admissions = sent.admission ∷ ran.admissions; gone = sent.gone ∷ ran.gone; after = ran.after }

-- a slot, and then the slots that follow
abbrev pub then_limited : LimitedSent → Result LimitedRan TagFault → Result LimitedRan TagFault
then_limited sent (Ok ran) = Ok (in_front sent ran)
then_limited sent (Err fault) = Err fault

-- the run over the slots from this one on; it ends at the first tag fault
unfoldable pub limited_run : List (Option ℕ) → List Machine → ℕ → List (List (Option Cell)) → Marked IdealState →
    Result LimitedRan TagFault
limited_run limits ms slot [] old = Ok (record { admissions = []; gone = []; after = old })
limited_run limits ms slot (cells ∷ traffic) old =
    elim (limited_slot limits ms slot cells old) [
      | Ok sent ↦ then_limited sent (limited_run limits ms (slot + 1) traffic sent.after)
      | Err fault ↦ Err fault
    ]

-- a run of so many slots that ends in this state, in which nothing arrives and none of so many outputs sends a cell
abbrev pub nothing_came : ℕ → ℕ → Marked IdealState → LimitedRan
nothing_came slots ports after =
    record {
      admissions = replicate slots (nothing_refused after.marks no_arrivals);
      gone = replicate slots (replicate ports None);
      after = after;
    }

-- nothing waits, all marks are down, and the rank machines are in these states
abbrev pub empty_limited : ℕ → List (List ℕ) → Marked IdealState
empty_limited ports ranks = unmarked ports (empty_ideal ports ranks)

-- ## The run without limits that it is

-- what is admitted in the slots from this one on, up to the first tag fault
unfoldable pub admitted_traffic : List (Option ℕ) → List Machine → ℕ → List (List (Option Cell)) → Marked IdealState →
    List (List (Option Cell))
admitted_traffic limits ms slot [] old = []
admitted_traffic limits ms slot (cells ∷ traffic) old =
    (ideal_admission limits cells old).cells
    ∷ elim (limited_slot limits ms slot cells old) [
      | Ok sent ↦ admitted_traffic limits ms (slot + 1) traffic sent.after
      | Err fault ↦ []
    ]

-- the run without what is said of limits
abbrev pub unlimited : Result LimitedRan TagFault → Result Ran TagFault
unlimited (Ok ran) = Ok (record { gone = ran.gone; after = ran.after.state })
unlimited (Err fault) = Err fault

-- A run with limits is the run without limits of the admitted arrivals.
abbrev pub IsRunOfAdmitted : Type 0
IsRunOfAdmitted =
    (limits : List (Option ℕ)) (ms : List Machine) (slot : ℕ) (traffic : List (List (Option Cell)))
    (old : Marked IdealState) →
    unlimited (limited_run limits ms slot traffic old)
    ≡ ideal_run ms slot (admitted_traffic limits ms slot traffic old) old.state

-- Where no output has a limit, and all marks are down, it is the run without limits of all arrivals.
abbrev pub IsRunOfAll : Type 0
IsRunOfAll =
    (limits : List (Option ℕ)) (ms : List Machine) (slot ports : ℕ) (traffic : List (List (Option Cell)))
    (state : IdealState) → NoLimits limits →
    unlimited (limited_run limits ms slot traffic (unmarked ports state)) ≡ ideal_run ms slot traffic state

-- Its slots are enough: all lists are empty at its end.
abbrev pub LimitedRunIsWhole : Type 0
LimitedRunIsWhole =
    (limits : List (Option ℕ)) (ms : List Machine) (ports : ℕ) (ranks : List (List ℕ)) (came : List Arrival) →
    IfOk (limited_run limits ms 0 (traffic_of came) (empty_limited ports ranks))
    (λ ran. IsEmptyIdeal ran.after.state)
