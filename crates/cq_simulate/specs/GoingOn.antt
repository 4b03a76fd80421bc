-- Only proofs use this. A fabric that can go on from any slot over the cells that are still to come, and what its run
-- leaves: up to its end, up to a slot, or up to a tag fault.
use Rattle.std.specs.Prelude.{◌≡◌, ℕ, ◌+◌, ◌*◌, ◌<◌, ◌≤◌, ◌^◌, nat_le, All, List, filter, false, length, map, slice_index, sum, take, ⊤}
use Rattle.std.specs.List.{range_with_len}
use Rattle.cq_base.specs.Arrivals.{no_arrivals}
use Rattle.cq_base.specs.Arriving.{Arrival, arriving, end_of}
use Rattle.cq_base.specs.Room.{RoomView}
use Rattle.cq_base.specs.declared.cell.Departure.{Departure}
use Rattle.cq_base.specs.declared.cell.TagFault.{TagFault}
use Rattle.cq_base.specs.declared.cell.Transfer.{Transfer}
use Rattle.cq_base.specs.Limits.{most_ports}
use Rattle.cq_cells.specs.Traffic.{IsShort, IsTraffic, is_from, is_to, number_of}
use Rattle.cq_engine.specs.Engine.{EngineView, marked_fabric, ports_of}
use Rattle.cq_ideal.specs.Admission.{Marked}
use Rattle.cq_ideal.specs.Ending.{arriving_from}
use Rattle.cq_laws.specs.Fabric.{Fabric, IsEmptyFabric, input}
use Rattle.cq_laws.specs.Frozen.{IsSoundFabric}
use Rattle.cq_laws.specs.Holding.{fabric_held, held_for}
use Rattle.cq_laws.specs.LimitedFabric.{LimitedFabricRun, LimitedFabricStops, LimitedRecord}
use Rattle.cq_prefs.specs.Pairing.{IsInputBest}
use Rattle.cq_rank.specs.Machine.{Machine}
use Rattle.cq_rank.specs.Switch.{class_count}
use Rattle.cq_resume.specs.Resumed.{Kept, kept_on}
use Rattle.cq_simulate.specs.declared.fabric_run.PackedFabricRun.{PackedFabricRun}
use Rattle.cq_simulate.specs.declared.refusal.RunRefusal.{RunRefusal}
use Rattle.cq_simulate.specs.declared.refusal.RunRefusal.TheVariants as refusal

-- the arrivals from this slot on
abbrev pub to_come : ℕ → List Arrival → List Arrival
to_come next came = filter (λ a. nat_le next a.slot) came

-- how many cells wait at each input
unfoldable pub fabric_listed : Fabric → List ℕ
fabric_listed f = map (λ i. length (input f i)) (range_with_len 0 (length f.inputs))

-- The engine can go on over what is still to come: its fabric is one that a fabric can go on from, and no more cells
-- wait or are to come than arrive in all. There is room in each list for the cells that wait there or arrive at its
-- input, in each buffer for those that wait anywhere for its output or arrive for it, in the list of departures for
-- all of these, with a place to spare for each port, and in that of transfers for all that wait at an input or
-- arrive, with two. And its counts have room for all of these.
pub record IsReadyOn (ms : List Machine) (came : List Arrival) (engine : EngineView) (sent : RoomView Departure)
    (note : RoomView Transfer) : Type 0 where
  pub running : engine.stopped ≡ false
  pub ports : ports_of engine ≤ most_ports
  pub inputs : length engine.fabric.inputs ≡ ports_of engine
  pub sound : IsSoundFabric engine.next engine.fabric
  pub traffic : IsTraffic (ports_of engine) (class_count ms) came
  pub short : IsShort came
  pub few : length came ≤ 2 ^ 34
  pub early : engine.next < 2 ^ 63
  pub cells : sum (fabric_held engine.fabric) + length (to_come engine.next came) ≤ length came
  pub lists : (i : ℕ) → i < ports_of engine →
      length (input engine.fabric i) + number_of (is_from i) (to_come engine.next came)
      ≤ slice_index engine.from_inputs i
  pub buffers : (j : ℕ) → j < ports_of engine →
      held_for j engine.fabric + number_of (is_to j) (to_come engine.next came) ≤ slice_index engine.to_outputs j
  pub sent_room : sum (fabric_held engine.fabric) + length (to_come engine.next came) + ports_of engine ≤ sent.spare
  pub note_room : sum (fabric_listed engine.fabric) + length (to_come engine.next came) + 2 * ports_of engine
      ≤ note.spare
  pub proposals : engine.figures.proposals < 2 ^ 63
  pub refused : All (λ r. (r.packets + length (to_come engine.next came) < 2 ^ 63)
      × (r.cells + length (to_come engine.next came) < 2 ^ 63)) engine.refused

-- the first m of these records run from where the engine stands to this state
abbrev pub RanTo : List Machine → List Arrival → EngineView → ℕ → List LimitedRecord → Marked Fabric → Type 0
RanTo ms came first m rs f =
    LimitedFabricRun IsInputBest first.limits ms first.next (arriving_from came first.next m) (marked_fabric first)
    (take m rs) f

-- what an engine has kept so far, with these lists of departures and transfers
abbrev pub kept_with : EngineView → RoomView Departure → RoomView Transfer → Kept
kept_with e sent note =
    record { sent = sent.items; note = note.items; figures = e.figures; refused = e.refused }

-- in these records the engine went on from the first state to the last, and what it sent, moved, counted and refused
-- was kept
pub record WentOn (ms : List Machine) (came : List Arrival) (old new : EngineView) (sent sent' : RoomView Departure)
    (note note' : RoomView Transfer) (records : List LimitedRecord) : Type 0 where
  pub runs : LimitedFabricRun IsInputBest old.limits ms old.next (arriving_from came old.next (length records))
      (marked_fabric old) records (marked_fabric new)
  pub kept : kept_with new sent' note' ≡ kept_on (kept_with old sent note) old.next records
  pub limits : new.limits ≡ old.limits
  pub running : new.stopped ≡ false

-- it went on to its end: no cell arrives any more and none waits, and before there was no such slot
pub record HasRunOn (ms : List Machine) (came : List Arrival) (old new : EngineView) (sent sent' : RoomView Departure)
    (note note' : RoomView Transfer) : Type 0 where
  pub records : List LimitedRecord
  pub went : WentOn ms came old new sent sent' note note' records
  pub all_came : end_of came ≤ old.next + length records
  pub empty : IsEmptyFabric new.fabric
  pub first : (m : ℕ) (f : Marked Fabric) → RanTo ms came old m records f → end_of came ≤ old.next + m →
      IsEmptyFabric f.state → length records ≤ m

-- a run of so many slots from where the engine stands stops at this tag fault
pub record StopsWithin (ms : List Machine) (came : List Arrival) (old : EngineView) (count : ℕ) (fault : TagFault) :
    Type 0 where
  pub records : List LimitedRecord
  pub stops : LimitedFabricStops IsInputBest old.limits ms old.next (arriving_from came old.next count)
      (marked_fabric old) records fault

-- one of some number of slots does
pub record StopsOn (ms : List Machine) (came : List Arrival) (old : EngineView) (fault : TagFault) : Type 0 where
  pub count : ℕ
  pub stops : StopsWithin ms came old count fault

-- it went on to its end, and this is what was kept
pub record HasKept (ms : List Machine) (came : List Arrival) (old : EngineView) (sent : RoomView Departure)
    (note : RoomView Transfer) (run : PackedFabricRun) : Type 0 where
  pub last : EngineView
  pub ran : HasRunOn ms came old last sent run.sent note run.note
  pub figures : run.figures ≡ last.figures
  pub refused : run.refused.items ≡ last.refused

-- or it did not: it meets this tag fault, or memory ran out
abbrev pub IsRefusalOn : List Machine → List Arrival → EngineView → RunRefusal → Type 0
IsRefusalOn ms came old (refusal.Tag fault) = StopsOn ms came old fault
IsRefusalOn ms came old refusal.NoMemory = ⊤

-- the engine can go on, and stands at this slot or before it
pub record IsReadyPart (ms : List Machine) (came : List Arrival) (last : ℕ) (engine : EngineView)
    (sent : RoomView Departure) (note : RoomView Transfer) : Type 0 where
  pub ready : IsReadyOn ms came engine sent note
  pub next : engine.next ≤ last
  pub early : last < 2 ^ 63

-- from the first state on the fabric ran up to the last slot, and what it sent, moved, counted and refused was kept
pub record HasPartedTo (ms : List Machine) (came : List Arrival) (last : ℕ) (old new : EngineView)
    (sent sent' : RoomView Departure) (note note' : RoomView Transfer) : Type 0 where
  pub records : List LimitedRecord
  pub went : WentOn ms came old new sent sent' note note' records
  pub reached : old.next + length records ≡ last
  pub next : new.next ≡ last
  pub ports : length new.fabric.inputs ≡ ports_of old

-- no cell comes in the slot, and none waits
pub record IsIdle (came : List Arrival) (slot : ℕ) (fabric : Fabric) : Type 0 where
  pub none_comes : arriving came slot ≡ no_arrivals
  pub none_waits : IsEmptyFabric fabric
