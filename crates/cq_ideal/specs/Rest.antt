-- Slots in which no cell arrives at an ideal switch and none waits in it, and what stands after them.
use Rattle.std.specs.Prelude.{◌≡◌, ℕ, ◌-◌, false, length, Ok, List, replicate}
use Rattle.cq_base.specs.Arrivals.{no_arrivals}
use Rattle.cq_rank.specs.Machine.{Machine}
use Rattle.cq_ideal.specs.Ideal.{IdealSwitch, marked_state}
use Rattle.cq_ideal.specs.LimitedIdeal.{limited_run, nothing_came}

-- The slots from this one on up to the other, without arrivals, are behind the switch. In none did an output send,
-- nothing was refused, and no list and no mark changed.
pub record HasRested (ms : List Machine) (slot to : ℕ) (old new : IdealSwitch) : Type 0 where
  pub slots : limited_run old.limits ms slot (replicate (to - slot) no_arrivals) (marked_state old)
      ≡ Ok (nothing_came (to - slot) (length old.fixed) (marked_state new))
  pub next : new.next ≡ to
  pub lists : new.state.lists ≡ old.state.lists
  pub fixed : new.fixed ≡ old.fixed
  pub limits : new.limits ≡ old.limits
  pub marks : new.marks ≡ old.marks
  pub refused : new.refused ≡ old.refused
  pub rooms : new.rooms ≡ old.rooms
  pub running : new.stopped ≡ false
