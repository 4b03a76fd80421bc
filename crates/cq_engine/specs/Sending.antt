-- Only proofs use this.
-- How the outputs of an engine send: what its parts show before, and what that makes of them.
use Rattle.std.specs.Prelude.{◌≡◌, ℕ, ◌+◌, ◌-◌, ◌^◌, ◌<◌, ◌≤◌, if◌then◌else◌, is_some, IfSome, List, length, map, max, Option, Some, slice_get, slice_index_or}
use Rattle.std.specs.List.{enumerate_from, list_any}
use Rattle.cq_base.specs.declared.cell.Departure.{Departure}
use Rattle.cq_base.specs.declared.cell.Queued.{Queued}
use Rattle.cq_base.specs.declared.figures.Figures.{Figures}
use Rattle.cq_base.specs.declared.figures.OutputFigures.{OutputFigures}
use Rattle.cq_base.specs.Room.{RoomView}
use Rattle.cq_rank.specs.Machine.{Machine}
use Rattle.cq_ideal.specs.Ideal.{HaveLeft}
use Rattle.cq_ideal.specs.IdealSlot.{all_told}
use Rattle.cq_ideal.specs.Limiter.{LimiterView}
use Rattle.cq_ideal.specs.Parts.{RanksView}
use Rattle.cq_laws.specs.Phases.{came_to}
use Rattle.cq_fabric.specs.Released.{HasReleased}
use Rattle.cq_engine.specs.Measuring.{output_counted}

-- Each output can send the cell of its place in `gone`, if there is one: the machines, the limiter and the figures are
-- of as many outputs, an output that sends holds a cell, and there is room for what each of them sends.
pub record CanSend (slot : ℕ) (gone : List (Option Queued)) (ranks : RanksView) (limiter : LimiterView) (x : Figures)
    (room : RoomView Departure) : Type 0 where
  pub early : slot < 2 ^ 64 - 1
  pub machines : length ranks.fixed ≡ length gone
  pub states : length ranks.states ≡ length ranks.fixed
  pub held : length limiter.held ≡ length gone
  pub holds : (j : ℕ) → IfSome (came_to gone j) (λ _. 0 < slice_index_or limiter.held j 0)
  pub sent : length gone ≤ room.spare
  pub outputs : length x.outputs ≡ length gone
  pub counts : (j : ℕ) (y : OutputFigures) → slice_get x.outputs j ≡ Some y → y.cells < 2 ^ 64 - 1

-- Each output sent the cell of its place in `gone`, or was idle. Its machine was told, it holds the cell no longer, the
-- departures were put behind the others, and the slot was added to what was seen of the outputs.
pub record EachHasSent (ms : List Machine) (slot : ℕ) (gone : List (Option Queued)) (ranks ranks' : RanksView)
    (limiter limiter' : LimiterView) (x x' : Figures) (room room' : RoomView Departure) : Type 0 where
  pub fixed : ranks'.fixed ≡ ranks.fixed
  pub told : ranks'.states ≡ all_told ms gone ranks.states
  pub released : HasReleased gone limiter limiter'
  pub left : HaveLeft slot gone room room'
  pub slots : x'.slots ≡ (if list_any is_some gone then max x.slots (slot + 1) else x.slots)
  pub outputs : x'.outputs ≡ map (λ at. output_counted slot (came_to gone at.0) at.1) (enumerate_from 0 x.outputs)
  pub proposals : x'.proposals ≡ x.proposals
  pub most : x'.most ≡ x.most
