-- Flows: the cells of one input and class for one output, as they come and as they leave.
use Rattle.std.specs.Prelude.{◌≡◌, ℕ, ◌<◌, ◌&&◌, ◌==◌, Bool, List, [], length, map, Some, Ok, slice_get, slice_index_or}
use Rattle.std.specs.List.{filter, AllByRecursion}
use Rattle.cq_base.specs.declared.cell.Cell.{Cell}
use Rattle.cq_base.specs.declared.cell.Departure.{Departure}
use Rattle.cq_base.specs.Arriving.{Arrival, traffic_of}
use Rattle.cq_base.specs.Limits.{most_ports}
use Rattle.cq_rank.specs.Machine.{Machine, KeepsLaws, machine_at}
use Rattle.cq_ideal.specs.IdealRun.{Ran, ideal_run, empty_ideal, departures_of}

-- whether the departure is at output j and its cell of input i and class c
abbrev pub leaves_in_flow : ℕ → ℕ → ℕ → Departure → Bool
leaves_in_flow i c j d = d.output == j && (d.queued.cell.id.input == i && d.queued.cell.class == c)

-- whether the arrival's cell is for output j, of input i and of class c
abbrev pub comes_in_flow : ℕ → ℕ → ℕ → Arrival → Bool
comes_in_flow i c j a = a.cell.output == j && (a.cell.id.input == i && a.cell.class == c)

-- the cells of the flow that departed, in the order of their departures
abbrev pub left_in_flow : ℕ → ℕ → ℕ → List Departure → List Cell
left_in_flow i c j gone = map (λ d. d.queued.cell) (filter (leaves_in_flow i c j) gone)

-- the cells of the flow that arrived, in the order of their arrivals
abbrev pub came_in_flow : ℕ → ℕ → ℕ → List Arrival → List Cell
came_in_flow i c j came = map (λ a. a.cell) (filter (comes_in_flow i c j) came)

-- the arrival comes to one of 64 inputs, is for one of the ports, and is of one of its output's classes
pub record IsForSwitch (ms : List Machine) (ports : ℕ) (a : Arrival) : Type 0 where
  pub input : a.cell.id.input < most_ports
  pub output : a.cell.output < ports
  pub class : a.cell.class < (machine_at ms a.cell.output).classes

-- of two arrivals at one input the later one in the list is of a later slot
abbrev pub RiseByInput : List Arrival → Type 0
RiseByInput came =
    (s t : ℕ) (a b : Arrival) → slice_get came s ≡ Some a → slice_get came t ≡ Some b → s < t →
    a.cell.id.input ≡ b.cell.id.input → a.slot < b.slot

-- What a run begins with: machines that keep their laws, a state of its machine's size for each port, and arrivals that
-- the switch can take, at most one at an input in a slot.
pub record IsRunnable (ms : List Machine) (ports : ℕ) (openings : List (List ℕ)) (came : List Arrival) : Type 0 where
  pub machines : (j : ℕ) → j < ports → KeepsLaws (machine_at ms j)
  pub ports_are : length openings ≡ ports
  pub sizes : (j : ℕ) → j < ports → length (slice_index_or openings j []) ≡ (machine_at ms j).size
  pub for_switch : AllByRecursion (IsForSwitch ms ports) came
  pub rise : RiseByInput came

-- In a run that ends without a tag fault each flow's cells leave in the order in which they came, and none is lost.
abbrev pub FlowsLeaveAsTheyCame : Type 0
FlowsLeaveAsTheyCame =
    (ms : List Machine) (ports : ℕ) (openings : List (List ℕ)) (came : List Arrival) (ran : Ran) →
    IsRunnable ms ports openings came → ideal_run ms 0 (traffic_of came) (empty_ideal ports openings) ≡ Ok ran →
    (i c j : ℕ) → left_in_flow i c j (departures_of 0 ran.gone) ≡ came_in_flow i c j came
