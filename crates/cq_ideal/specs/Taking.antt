-- What becomes of the cells that arrive in a slot, before they go into lists.
use Rattle.std.specs.Prelude.{◌≡◌, ℕ, ◌+◌, ◌<◌, ◌^◌, List, length, Option, Ok, slice_index_or}
use Rattle.cq_base.specs.declared.cell.Cell.{Cell}
use Rattle.cq_base.specs.declared.cell.Queued.{Queued}
use Rattle.cq_base.specs.Limits.{most_ports}
use Rattle.cq_rank.specs.Machine.{Machine}
use Rattle.cq_rank.specs.Switch.{AreForOneSwitch, class_count}
use Rattle.cq_ideal.specs.Admission.{admitted, marks_after, refused}
use Rattle.cq_ideal.specs.Ideal.{count_for}
use Rattle.cq_ideal.specs.Limiter.{CanCount, HasPorts, LimiterView}
use Rattle.cq_ideal.specs.Parts.{RanksView}
use Rattle.cq_ideal.specs.Ranking.{AreForPorts, ranking}
use Rattle.cq_ideal.specs.Refused.{with_refused}

-- The machines are for one switch, the limiter is for as many ports, and the arrivals are for these. What an output
-- holds with them, and what is refused with them, are numbers of 64 bits.
pub record CanTakeIn (ms : List Machine) (cells : List (Option Cell)) (limiter : LimiterView) : Type 0 where
  pub machines : AreForOneSwitch ms
  pub ports : length limiter.limits ≡ length ms
  pub arrivals : AreForPorts (length ms) (class_count ms) cells
  pub held : (j : ℕ) → j < length limiter.limits → slice_index_or limiter.held j 0 + count_for j cells < 2 ^ 64
  pub refused : CanCount (length limiter.limits) limiter.refused

-- the arrivals were judged: which marks are up after it, and how many cells each output holds with those admitted
pub record HasJudged (cells : List (Option Cell)) (old new : LimiterView) : Type 0 where
  pub marks : new.marks ≡ marks_after old.limits old.held old.marks cells
  pub held : (j : ℕ) → j < length old.limits →
      slice_index_or new.held j 0 ≡ slice_index_or old.held j 0 + count_for j (admitted new.marks cells)
  pub limits : new.limits ≡ old.limits
  pub ports : HasPorts new

-- those that were admitted have their keys, and those that were refused are counted
pub record HasTakenIn (ms : List Machine) (slot : ℕ) (cells : List (Option Cell)) (ranks ranks_new : RanksView)
    (limiter limiter_new : LimiterView) (came : List (Option Queued)) : Type 0 where
  pub ranked : ranking ms slot 0 (admitted limiter_new.marks cells) ranks.states
      ≡ Ok (record { came = came; ranks = ranks_new.states })
  pub long : length came ≡ most_ports
  pub refused : limiter_new.refused ≡ with_refused (refused limiter_new.marks cells) limiter.refused
