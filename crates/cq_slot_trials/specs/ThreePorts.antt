-- Only proofs use this.
-- An ideal switch of three ports and two classes, as the tests try it.
use Rattle.std.specs.Prelude.{◌≡◌, ℕ, ◌+◌, ◌*◌, ◌<◌, ◌≤◌, false, List, length}
use Rattle.cq_base.specs.Room.{RoomView}
use Rattle.cq_base.specs.declared.cell.Departure.{Departure}
use Rattle.cq_rank.specs.Machine.{Machine}
use Rattle.cq_rank.specs.Switch.{class_count}
use Rattle.cq_ideal.specs.Ideal.{IdealSwitch, spare_at}
use Rattle.cq_ideal.specs.Limiter.{CanCount}

-- it can have its next slot, whatever arrives at 64 places, and that slot is an early one
pub record CanStep (ms : List Machine) (ideal : IdealSwitch) (room : RoomView Departure) : Type 0 where
  pub running : ideal.stopped ≡ false
  pub early : ideal.next < 1000
  pub ports : length ideal.fixed ≡ 3
  pub rooms : length ideal.rooms ≡ 3
  pub classes : class_count ms ≡ 2
  pub spare : (j : ℕ) → j < 3 → 64 ≤ spare_at ideal j
  pub counts : CanCount 3 ideal.refused
  -- each output can send a cell
  pub sent : 3 ≤ room.spare

-- it is before this slot of a few, and no more cells went into a list or were refused than arrive at 64 places
pub record IsAt (ms : List Machine) (slot : ℕ) (ideal : IdealSwitch) : Type 0 where
  pub running : ideal.stopped ≡ false
  pub next : ideal.next ≡ slot
  pub ports : length ideal.fixed ≡ 3
  pub rooms : length ideal.rooms ≡ 3
  pub classes : class_count ms ≡ 2
  pub counts : (n : ℕ) → n + 64 * slot ≤ 1000 → CanCount n ideal.refused
  pub spare : (j : ℕ) → j < 3 → 192 ≤ spare_at ideal j + 64 * slot

-- it had its next slot: no more cells went into a list, and no more were refused at an output, than arrive at 64 places
pub record HasStepped (old new : IdealSwitch) : Type 0 where
  pub next : new.next ≡ old.next + 1
  pub spare : (j : ℕ) → j < 3 → spare_at old j ≤ spare_at new j + 64
  pub counts : (n : ℕ) → CanCount (n + 64) old.refused → CanCount n new.refused
