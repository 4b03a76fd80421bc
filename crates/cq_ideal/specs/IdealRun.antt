-- Whole runs of the ideal switch.
use Rattle.std.specs.Prelude.{◌≡◌, ℕ, ◌+◌, List, [], ◌∷◌, ◌++◌, All, Option, None, Result, Ok, Err, replicate}
use Rattle.cq_base.specs.declared.cell.Cell.{Cell}
use Rattle.cq_base.specs.declared.cell.Departure.{Departure}
use Rattle.cq_base.specs.declared.cell.Queued.{Queued}
use Rattle.cq_base.specs.declared.cell.TagFault.{TagFault}
use Rattle.cq_rank.specs.Machine.{Machine}
use Rattle.cq_ideal.specs.IdealSlot.{IdealState, ideal_slot, departures_in}

-- what came of a run: per slot and output the cell that was sent, if one was, and the state at its end
pub record Ran : Type 0 where
  pub gone : List (List (Option Queued))
  pub after : IdealState

-- a run of so many slots that ends in this state, in which none of so many outputs sends a cell
abbrev pub nothing_sent : ℕ → ℕ → IdealState → Ran
nothing_sent slots ports after = record { gone = replicate slots (replicate ports None); after = after }

-- a slot, and then the slots that follow
abbrev pub then_ran : List (Option Queued) → Result Ran TagFault → Result Ran TagFault
then_ran gone (Ok ran) = Ok (record { gone = gone ∷ ran.gone; after = ran.after })
then_ran gone (Err fault) = Err fault

-- The run over the slots from this one on, with the cells that arrive in each; it ends at the first tag fault.
unfoldable pub ideal_run : List Machine → ℕ → List (List (Option Cell)) → IdealState → Result Ran TagFault
ideal_run ms slot [] state = Ok (record { gone = []; after = state })
ideal_run ms slot (cells ∷ traffic) state =
    elim (ideal_slot ms slot cells state) [
      | Ok sent ↦ then_ran sent.gone (ideal_run ms (slot + 1) traffic sent.after)
      | Err fault ↦ Err fault
    ]

-- nothing waits, and the rank machines are in these states
abbrev pub empty_ideal : ℕ → List (List ℕ) → IdealState
empty_ideal ports ranks = record { lists = replicate ports []; ranks = ranks }

-- no cell waits in any list
abbrev pub IsEmptyIdeal : IdealState → Type 0
IsEmptyIdeal ideal = All (λ cells. cells ≡ []) ideal.lists

-- the departures of the slots from this one on, in order of slot, then output
unfoldable pub departures_of : ℕ → List (List (Option Queued)) → List Departure
departures_of slot [] = []
departures_of slot (gone ∷ slots) = departures_in slot gone ++ departures_of (slot + 1) slots

-- the departures of a run, in order of slot, then output; or its tag fault
abbrev pub departures_ran : Result Ran TagFault → Result (List Departure) TagFault
departures_ran (Ok ran) = Ok (departures_of 0 ran.gone)
departures_ran (Err fault) = Err fault
