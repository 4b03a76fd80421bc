-- What one slot asks of an ideal switch, and what stands after it.
use Rattle.std.specs.Prelude.{◌≡◌, ℕ, ◌+◌, ◌-◌, ◌<◌, ◌≤◌, ◌^◌, false, List, Option, length}
use Rattle.cq_base.specs.declared.cell.Cell.{Cell}
use Rattle.cq_base.specs.declared.cell.Departure.{Departure}
use Rattle.cq_base.specs.Room.{RoomView}
use Rattle.cq_rank.specs.Machine.{Machine}
use Rattle.cq_rank.specs.Switch.{class_count}
use Rattle.cq_ideal.specs.Ideal.{HasRoomFor, HaveLeft, IdealSwitch, SpareFollows, marked_state}
use Rattle.cq_ideal.specs.Limiter.{CanCount}
use Rattle.cq_ideal.specs.LimitedIdeal.{LimitedSent}
use Rattle.cq_ideal.specs.Ranking.{AreForPorts}
use Rattle.cq_ideal.specs.Refused.{with_refused}

-- the switch can have this slot with these arrivals
pub record CanHaveSlot (ms : List Machine) (slot : ℕ) (cells : List (Option Cell)) (ideal : IdealSwitch)
    (room : RoomView Departure) : Type 0 where
  pub running : ideal.stopped ≡ false
  pub next : slot ≡ ideal.next
  -- another slot can follow it
  pub early : slot < 2 ^ 64 - 1
  pub arrivals : AreForPorts (length ideal.fixed) (class_count ms) cells
  pub spare : HasRoomFor cells ideal
  pub refused : CanCount (length ideal.fixed) ideal.refused
  -- each output can send a cell
  pub sent : length ideal.fixed ≤ room.spare

-- it has had the slot, which came to this
pub record HasHadSlot (slot : ℕ) (of_slot : LimitedSent) (old new : IdealSwitch) (room room_new : RoomView Departure)
    : Type 0 where
  pub state : marked_state new ≡ of_slot.after
  pub sent : HaveLeft slot of_slot.gone room room_new
  pub spare : SpareFollows of_slot.admission.cells of_slot.gone old new
  pub refused : new.refused ≡ with_refused of_slot.admission.refused old.refused
  pub next : new.next ≡ slot + 1

-- a tag fault left all this as it was
pub record IsUnchanged (old new : IdealSwitch) (room room_new : RoomView Departure) : Type 0 where
  pub sent : room_new ≡ room
  pub lists : new.state.lists ≡ old.state.lists
  pub refused : new.refused ≡ old.refused
  pub next : new.next ≡ old.next

-- no slot changes this of a switch
pub record IsSameSwitch (old new : IdealSwitch) : Type 0 where
  pub fixed : new.fixed ≡ old.fixed
  pub limits : new.limits ≡ old.limits
  pub rooms : new.rooms ≡ old.rooms
