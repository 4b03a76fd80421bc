-- What clauses see of an ideal switch, and what a slot asks of it.
use Rattle.std.specs.Prelude.{◌≡◌, ℕ, ◌+◌, ◌-◌, ◌<◌, ◌≤◌, ◌==◌, ◌++◌, Bool, is_some, if◌then◌else◌, List, [], ◌∷◌, length, Option, Some, None, Result, Ok, Err, slice_index, slice_index_or}
use Rattle.cq_base.specs.declared.cell.Cell.{Cell}
use Rattle.cq_base.specs.declared.cell.Departure.{Departure}
use Rattle.cq_base.specs.declared.cell.Queued.{Queued}
use Rattle.cq_base.specs.declared.cell.TagFault.{TagFault}
use Rattle.cq_base.specs.Room.{RoomView}
use Rattle.cq_ideal.specs.declared.refused.Refused.{Refused}
use Rattle.cq_ideal.specs.Admission.{Marked, marked}
use Rattle.cq_rank.specs.Machine.{Machine}
use Rattle.cq_ideal.specs.IdealSlot.{IdealState, departures_in}
use Rattle.cq_ideal.specs.LimitedIdeal.{LimitedSent, limited_slot}

-- an ideal switch
pub record IdealSwitch : Type 0 where
  -- per output the numbers that give its rank machine
  pub fixed : List (List ℕ)
  -- per output its limit, if it has one
  pub limits : List (Option ℕ)
  -- the lists, and the states of the rank machines
  pub state : IdealState
  -- per input whether the packet whose cells arrive there is refused
  pub marks : List Bool
  -- how many packets and cells were refused, at each output that has a limit
  pub refused : List Refused
  -- per output how many cells its list can hold
  pub rooms : List ℕ
  -- the slot that comes next
  pub next : ℕ
  -- whether a slot had a tag fault
  pub stopped : Bool

-- its state, with its marks
abbrev pub marked_state : IdealSwitch → Marked IdealState
marked_state s = marked s.marks s.state

-- what a slot of it comes to, with these arrivals
abbrev pub its_slot : List Machine → ℕ → List (Option Cell) → IdealSwitch → Result LimitedSent TagFault
its_slot ms slot cells s = limited_slot s.limits ms slot cells (marked_state s)

-- how many more cells the list of output j has room for: an insertion lowers it by one, a removal raises it by one
abbrev pub spare_at : IdealSwitch → ℕ → ℕ
spare_at s j = slice_index s.rooms j - length (slice_index_or s.state.lists j [])

-- how many of the arriving cells are for output j
abbrev pub count_for : ℕ → List (Option Cell) → ℕ
count_for j [] = 0
count_for j (None ∷ cells) = count_for j cells
count_for j (Some cell ∷ cells) = (if cell.output == j then 1 else 0) + count_for j cells

-- each list has room for the cells that arrive for it
abbrev pub HasRoomFor : List (Option Cell) → IdealSwitch → Type 0
HasRoomFor cells s = (j : ℕ) → j < length s.rooms → count_for j cells ≤ spare_at s j

-- the answer to what a slot comes to
abbrev pub answer_to : {S : Type 0} → Result S TagFault → Result (Unit {0}) TagFault
answer_to (Ok sent) = Ok tt
answer_to (Err fault) = Err fault

-- the departures of a slot are put at the end of what was sent, and have taken room there
pub record HaveLeft (slot : ℕ) (gone : List (Option Queued)) (before after : RoomView Departure) : Type 0 where
  pub items : after.items ≡ before.items ++ departures_in slot gone
  pub spare : after.spare + length (departures_in slot gone) ≡ before.spare

-- Each cell that came lowers the spare of the list of its output by one, and each that was sent raises that of its
-- output's list by one.
abbrev pub SpareFollows : List (Option Cell) → List (Option Queued) → IdealSwitch → IdealSwitch → Type 0
SpareFollows cells gone before after =
    (j : ℕ) → j < length before.rooms →
    spare_at after j + count_for j cells
    ≡ spare_at before j + (if is_some (slice_index_or gone j None) then 1 else 0)
