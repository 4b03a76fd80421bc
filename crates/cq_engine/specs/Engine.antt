-- What clauses see of an engine, what a slot asks of it, and what it does.
use Rattle.std.specs.Prelude.{◌≡◌, ℕ, ◌+◌, ◌-◌, ◌*◌, ◌^◌, ◌<◌, ◌≤◌, ◌++◌, Bool, false, List, [], length, Option, Some, slice_get, slice_index, ⊤}
use Rattle.cq_base.specs.declared.cell.Cell.{Cell}
use Rattle.cq_base.specs.declared.cell.Departure.{Departure}
use Rattle.cq_base.specs.declared.cell.Transfer.{Transfer}
use Rattle.cq_base.specs.declared.figures.InputFigures.{InputFigures}
use Rattle.cq_base.specs.declared.figures.OutputFigures.{OutputFigures}
use Rattle.cq_base.specs.declared.figures.Figures.{Figures}
use Rattle.cq_base.specs.Arrivals.{arrival_at}
use Rattle.cq_base.specs.Room.{RoomView}
use Rattle.cq_base.specs.Limits.{most_workers}
use Rattle.cq_rank.specs.Machine.{Machine}
use Rattle.cq_rank.specs.Switch.{AreForOneSwitch, AreSized, class_count}
use Rattle.cq_ideal.specs.declared.refused.Refused.{Refused}
use Rattle.cq_ideal.specs.Admission.{Admission, Marked, marked, marks_down}
use Rattle.cq_ideal.specs.Ideal.{count_for}
use Rattle.cq_ideal.specs.Limiter.{CanCount, LimiterView}
use Rattle.cq_ideal.specs.Refused.{refused_counts, with_refused}
use Rattle.cq_ideal.specs.IdealSlot.{IdealState, departures_in}
use Rattle.cq_prefs.specs.Pairing.{IsInputBest}
use Rattle.cq_laws.specs.Fabric.{Fabric, buffer, empty_fabric, input}
use Rattle.cq_laws.specs.Frozen.{AreCountsOf, AreOwn, HasPorts, IsSoundFabric, fabric_in}
use Rattle.cq_laws.specs.Holding.{waiting_for}
use Rattle.cq_laws.specs.LimitedFabric.{LimitedFabricSlot, LimitedRecord, fabric_admission}
use Rattle.cq_laws.specs.Records.{transfers_in}
use Rattle.cq_laws.specs.Agreement.{Agrees}
use Rattle.cq_fabric.specs.Held.{HoldsFabric}
use Rattle.cq_laws.specs.Measures.{HasMoreSlack, figures_after, no_figures}
use Rattle.cq_laws.specs.declared.frozen.Frozen.{Frozen}
use Rattle.cq_engine.specs.declared.measure.Look.{Look}
use Rattle.cq_engine.specs.declared.measure.Look.TheVariants as look

-- an engine
pub record EngineView : Type 0 where
  -- per output the numbers that give its rank machine
  pub fixed : List (List ℕ)
  -- per output its limit, if it has one
  pub limits : List (Option ℕ)
  -- the lists, the buffers, and the states of the rank machines
  pub fabric : Fabric
  -- per input whether the packet whose cells arrive there is refused
  pub marks : List Bool
  -- how many packets and cells were refused, at each output that has a limit
  pub refused : List Refused
  -- per input how many cells its list can hold
  pub from_inputs : List ℕ
  -- per output how many cells its buffer can hold
  pub to_outputs : List ℕ
  -- what was seen of the slots so far
  pub figures : Figures
  -- the slot that comes next
  pub next : ℕ
  -- whether a slot had a tag fault
  pub stopped : Bool

-- so many workers can propose at once
pub record AreWorkers (workers : ℕ) : Type 0 where
  pub some : 1 ≤ workers
  pub few : workers ≤ most_workers

-- an engine of so many ports can be made of these machines, these rooms of its lists and of its buffers, and these
-- limits of its outputs, with so many workers
pub record CanBeMade (ms : List Machine) (ports : ℕ) (rooms_from rooms_to : List ℕ) (bounds : List (Option ℕ))
    (count : ℕ) : Type 0 where
  pub machines : AreForOneSwitch ms
  pub from_inputs : length rooms_from ≡ ports
  pub to_outputs : length rooms_to ≡ ports
  pub limits : length bounds ≡ ports
  pub workers : AreWorkers count

-- an engine of so many ports, with these machines in these states, these rooms and these limits, before its first slot:
-- no cell waits, no packet is refused, and nothing was counted: what was refused is 0 at each output with a limit
abbrev pub fresh_engine : ℕ → List (List ℕ) → List (List ℕ) → List ℕ → List ℕ → List (Option ℕ) → EngineView
fresh_engine ports fixed states from_inputs to_outputs limits =
    record {
      fixed = fixed;
      limits = limits;
      fabric = empty_fabric ports states;
      marks = marks_down ports;
      refused = refused_counts limits [];
      from_inputs = from_inputs;
      to_outputs = to_outputs;
      figures = no_figures ports;
      next = 0;
      stopped = false;
    }

-- its fabric, with its marks
abbrev pub marked_fabric : EngineView → Marked Fabric
marked_fabric e = marked e.marks e.fabric

-- what it admits of a slot's arrivals
abbrev pub its_admission : List (Option Cell) → EngineView → Admission
its_admission cells e = fabric_admission e.limits cells (marked_fabric e)

-- how many inputs and outputs there are
abbrev pub ports_of : EngineView → ℕ
ports_of e = length e.fixed

-- how many more cells the list of input i has room for: an insertion lowers it by one, a removal raises it by one
abbrev pub list_spare : EngineView → ℕ → ℕ
list_spare e i = slice_index e.from_inputs i - length (input e.fabric i)

-- how many more cells the buffer of output j has room for
abbrev pub buffer_spare : EngineView → ℕ → ℕ
buffer_spare e j = slice_index e.to_outputs j - length (buffer e.fabric j)

-- the list of each input at which a cell arrives has room for it
abbrev pub HaveListRoom : List (Option Cell) → EngineView → Type 0
HaveListRoom cells e = (i : ℕ) (cell : Cell) → arrival_at cells i ≡ Some cell → 0 < list_spare e i

-- each buffer has room for all cells for its output that wait at the inputs or arrive
abbrev pub HaveBufferRoom : List (Option Cell) → EngineView → Type 0
HaveBufferRoom cells e = (j : ℕ) → j < ports_of e → waiting_for j e.fabric.inputs + count_for j cells ≤ buffer_spare e j

-- what a slot asks for: room for the cells that arrive, for what it sends and notes, and for what it counts
pub record IsReadyFor (cells : List (Option Cell)) (e : EngineView) (sent : RoomView Departure)
    (note : RoomView Transfer) : Type 0 where
  pub list_room : HaveListRoom cells e
  pub buffer_room : HaveBufferRoom cells e
  pub refused : CanCount (ports_of e) e.refused
  pub sent_room : ports_of e ≤ sent.spare
  pub note_room : 2 * ports_of e ≤ note.spare
  -- in each phase there are no more than the ports squared
  pub proposals : e.figures.proposals + 2 * (ports_of e * ports_of e) < 2 ^ 64

-- what a slot did: it was one slot of the fabric with limits, with the input-best matchings, and its departures, its
-- transfers, its record and its refused cells were added to what was there
pub record SlotDone (ms : List Machine) (slot : ℕ) (cells : List (Option Cell)) (old new : EngineView)
    (sent sent' : RoomView Departure) (note note' : RoomView Transfer) : Type 0 where
  pub record_of : LimitedRecord
  pub is_slot : LimitedFabricSlot IsInputBest old.limits ms slot cells (marked_fabric old) record_of (marked_fabric new)
  pub departed : sent'.items ≡ sent.items ++ departures_in slot record_of.of_slot.gone
  pub departed_room : sent'.spare + length (departures_in slot record_of.of_slot.gone) ≡ sent.spare
  pub crossed : note'.items ≡ note.items ++ transfers_in record_of.of_slot
  pub crossed_room : note'.spare + length (transfers_in record_of.of_slot) ≡ note.spare
  pub counted : new.figures ≡ figures_after old.figures record_of.of_slot
  pub refused : new.refused ≡ with_refused record_of.admission.refused old.refused

-- it went on to the next slot, and its count of proposals grew by no more than twice the ports squared
pub record HasGoneOn (slot : ℕ) (old new : EngineView) : Type 0 where
  pub next : new.next ≡ slot + 1
  pub few : new.figures.proposals ≤ old.figures.proposals + 2 * (ports_of old * ports_of old)

-- what stays as before where a slot had a tag fault
pub record HasStopped (old new : EngineView) (sent sent' : RoomView Departure) (note note' : RoomView Transfer)
    : Type 0 where
  pub unsent : sent' ≡ sent
  pub unnoted : note' ≡ note
  pub figures : new.figures ≡ old.figures
  pub refused : new.refused ≡ old.refused
  pub lists : new.fabric.inputs ≡ old.fabric.inputs
  pub buffers : new.fabric.buffers ≡ old.fabric.buffers
  pub next : new.next ≡ old.next

-- what no slot changes: the machines, the limits, and how many cells there is room for
pub record IsMadeAs (old new : EngineView) : Type 0 where
  pub fixed : new.fixed ≡ old.fixed
  pub limits : new.limits ≡ old.limits
  pub from_inputs : new.from_inputs ≡ old.from_inputs
  pub to_outputs : new.to_outputs ≡ old.to_outputs

-- before this slot no input and no output has counted more cells than there were slots
pub record CountsFit (next : ℕ) (x : Figures) : Type 0 where
  pub inputs : (i : ℕ) (y : InputFigures) → slice_get x.inputs i ≡ Some y → y.cells ≤ next
  pub outputs : (j : ℕ) (y : OutputFigures) → slice_get x.outputs j ≡ Some y → y.cells ≤ next

-- the fabric is in step with an ideal switch: there is a state of one with which it agrees before this slot. And its
-- figures are of its ports
pub record IsInStep (ms : List Machine) (next : ℕ) (x : Figures) (f : Fabric) : Type 0 where
  pub machines : AreForOneSwitch ms
  pub ports : length f.inputs ≡ length ms
  pub ideal : IdealState
  pub agrees : Agrees next f ideal
  pub inputs : length x.inputs ≡ length f.inputs
  pub outputs : length x.outputs ≡ length ms
  pub counts : CountsFit next x

-- where a slot looks at the arriving cells alone, each cell that waits has more slack than the least that the figures
-- have
abbrev pub IsSeen : Look → Figures → Fabric → Type 0
IsSeen look.Arriving x f = HasMoreSlack x f
IsSeen look.All x f = ⊤

-- what holds of an engine that is not stopped, and looks at these cells in its next slot
pub record IsRunning (ms : List Machine) (next : ℕ) (looks : Look) (x : Figures) (f : Fabric) (limiter : LimiterView)
    : Type 0 where
  pub in_step : IsInStep ms next x f
  pub seen : IsSeen looks x f
  pub ranks : length f.ranks ≡ length ms
  pub holds : HoldsFabric f limiter

-- ## Standing still

-- the state of an engine between two slots, with all that was counted
abbrev pub frozen_of : EngineView → Frozen
frozen_of e = record {
  next = e.next;
  figures = e.figures;
  refused = e.refused;
  marks = e.marks;
  ranks = e.fabric.ranks;
  lists = e.fabric.inputs;
  buffers = e.fabric.buffers;
}

-- an engine with these machines, limits and rooms that stands in this state
abbrev pub thawed_engine : List (List ℕ) → List (Option ℕ) → List ℕ → List ℕ → Frozen → EngineView
thawed_engine fixed limits from_inputs to_outputs x = record {
  fixed = fixed;
  limits = limits;
  fabric = fabric_in x;
  marks = x.marks;
  refused = x.refused;
  from_inputs = from_inputs;
  to_outputs = to_outputs;
  figures = x.figures;
  next = x.next;
  stopped = false;
}

-- An engine with these machines, limits and rooms can go on from this state: it has what each port has, its fabric is
-- one that a fabric can go on from, its cells are of their inputs, each rank state is of its machine's size, what was
-- refused is counted for each output with a limit, and no port has counted more cells than there were slots. Each
-- list and each buffer has room for its cells.
pub record CanGoOn (ms : List Machine) (limits : List (Option ℕ)) (from_inputs to_outputs : List ℕ) (x : Frozen) :
    Type 0 where
  pub ports : HasPorts (length ms) x
  pub sound : IsSoundFabric x.next (fabric_in x)
  pub own : AreOwn (length ms) (class_count ms) (fabric_in x)
  pub sized : AreSized ms x.ranks
  pub refused : AreCountsOf limits x.refused
  pub counts : CountsFit x.next x.figures
  pub list_rooms : (i : ℕ) → i < length ms → length (input (fabric_in x) i) ≤ slice_index from_inputs i
  pub buffer_rooms : (j : ℕ) → j < length ms → length (buffer (fabric_in x) j) ≤ slice_index to_outputs j
