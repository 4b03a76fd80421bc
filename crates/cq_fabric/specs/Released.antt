-- What a limiter counts once the outputs have sent.
use Rattle.std.specs.Prelude.{◌≡◌, ℕ, ◌+◌, if◌then◌else◌, is_some, List, length, Option, slice_index_or}
use Rattle.cq_base.specs.declared.cell.Queued.{Queued}
use Rattle.cq_ideal.specs.Limiter.{JudgesAsBefore, LimiterView}
use Rattle.cq_laws.specs.Phases.{came_to}

-- each output holds the cell that it sent no longer, and nothing else is changed
pub record HasReleased (gone : List (Option Queued)) (old new : LimiterView) : Type 0 where
  pub held : (j : ℕ) →
      slice_index_or new.held j 0 + (if is_some (came_to gone j) then 1 else 0) ≡ slice_index_or old.held j 0
  pub ports : length new.held ≡ length old.held
  pub judges : JudgesAsBefore old new
