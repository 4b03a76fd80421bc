-- Only proofs use this.
-- A switch that can run over all cells that arrive.
use Rattle.std.specs.Prelude.{◌≡◌, ℕ, ◌+◌, ◌<◌, ◌≤◌, List, [], length, false, slice_index}
use Rattle.cq_base.specs.Arriving.{Arrival}
use Rattle.cq_base.specs.Room.{RoomView}
use Rattle.cq_base.specs.declared.cell.Departure.{Departure}
use Rattle.cq_base.specs.Limits.{most_ports}
use Rattle.cq_cells.specs.Traffic.{IsShort, IsTraffic, is_to, number_of}
use Rattle.cq_ideal.specs.Admission.{marks_down}
use Rattle.cq_ideal.specs.Ideal.{IdealSwitch}
use Rattle.cq_ideal.specs.IdealRun.{empty_ideal}
use Rattle.cq_ideal.specs.Refused.{refused_counts}
use Rattle.cq_rank.specs.Machine.{Machine}
use Rattle.cq_rank.specs.Switch.{class_count}

-- The switch has had no slot, holds no cell and has refused none, and there is room for all cells that arrive: in each
-- list for those to its output, and in the list of departures for all of them, with a place for each port to spare.
pub record IsReady (ms : List Machine) (came : List Arrival) (ideal : IdealSwitch) (sent : RoomView Departure) : Type
    0 where
  pub running : ideal.stopped ≡ false
  pub next : ideal.next ≡ 0
  pub ports : length ideal.fixed ≤ most_ports
  pub traffic : IsTraffic (length ideal.fixed) (class_count ms) came
  pub short : IsShort came
  pub state : ideal.state ≡ empty_ideal (length ideal.fixed) ideal.state.ranks
  pub lists : length ideal.rooms ≡ length ideal.fixed
  pub rooms : (j : ℕ) → j < length ideal.rooms → slice_index ideal.rooms j ≡ number_of (is_to j) came
  pub marks : ideal.marks ≡ marks_down (length ideal.fixed)
  pub refused : ideal.refused ≡ refused_counts ideal.limits []
  pub nothing : sent.items ≡ []
  pub spare : sent.spare ≡ length came + length ideal.fixed
