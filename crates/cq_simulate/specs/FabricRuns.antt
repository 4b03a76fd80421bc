-- The fabric of the ranks and the limits that tables describe, run over the cells that arrive.
use Rattle.std.specs.Prelude.{◌≡◌, List, IsOkAnd}
use Rattle.std.specs.List.{AllByRecursion}
use Rattle.cq_base.specs.Arriving.{Arrival}
use Rattle.cq_base.specs.declared.cell.Cell.{Cell}
use Rattle.cq_base.specs.declared.cell.Departure.{Departure}
use Rattle.cq_ideal.specs.Admission.{Marked}
use Rattle.cq_ideal.specs.IdealRun.{departures_of}
use Rattle.cq_ideal.specs.Refused.{refused_counts, refused_in}
use Rattle.cq_laws.specs.Fabric.{Fabric}
use Rattle.cq_laws.specs.LimitedFabric.{LimitedRecord, LimitedWholeRun, admissions_in, empty_limited_fabric, slots_in}
use Rattle.cq_laws.specs.Measures.{figures_of}
use Rattle.cq_laws.specs.Records.{gone_in, transfers_of_run}
use Rattle.cq_laws.specs.Slack.{HasSlack}
use Rattle.cq_prefs.specs.FirstCells.{AreOrdersOf, orders_of}
use Rattle.cq_prefs.specs.Orders.{Orders}
use Rattle.cq_prefs.specs.Pairing.{IsInputBest, IsStable, Partners}
use Rattle.cq_route.specs.Tables.{ports_of}
use Rattle.cq_route.specs.declared.tables.Tables.{Tables}
use Rattle.cq_scfq.specs.Disciplines.{machines_of, openings_of}
use Rattle.cq_simulate.specs.IdealRuns.{ran_ideal}
use Rattle.cq_simulate.specs.declared.fabric_run.FabricRun.{FabricRun}
use Rattle.cq_simulate.specs.declared.fabric_run.PackedFabricRun.{PackedFabricRun}

-- the records of the whole run, from the empty fabric on up to the last slot in which a cell arrives, waits or
-- leaves, with the input-best matchings. There is one such list at most (`limited_runs_end_together` of cq_laws)
pub record IsFabricRun (t : Tables) (came : List Arrival) (rs : List LimitedRecord) : Type 0 where
  pub end : Marked Fabric
  pub runs : LimitedWholeRun IsInputBest t.limits (machines_of t.setup) came
      (empty_limited_fabric (ports_of t.setup) (openings_of t.setup)) rs end

-- the departures of a run
abbrev pub departures_in_run : List LimitedRecord → List Departure
departures_in_run rs = departures_of 0 (gone_in (slots_in rs))

-- and its refused cells
abbrev pub refused_in_run : List LimitedRecord → List Cell
refused_in_run rs = refused_in (admissions_in rs)

-- what was kept of a run: its departures, its transfers, its figures, and what was refused
pub record IsKeptOf (t : Tables) (came : List Arrival) (run : FabricRun) : Type 0 where
  pub records : List LimitedRecord
  pub is_run : IsFabricRun t came records
  pub sent : run.sent.items ≡ departures_in_run records
  pub note : run.note.items ≡ transfers_of_run (slots_in records)
  pub figures : run.figures ≡ figures_of (ports_of t.setup) (slots_in records)
  pub refused : run.refused.items ≡ refused_counts t.limits (refused_in_run records)

-- a run whose departures are packed, as it is
abbrev pub unpacked_run : PackedFabricRun → FabricRun
unpacked_run run = record { sent = run.sent; note = run.note; figures = run.figures; refused = run.refused }

-- after the arrivals of each slot every cell that waits at an input has slack 0 at least: no more cells stand ahead
-- of it in its list than more urgent cells wait at its output
abbrev pub AlwaysHasSlack : List LimitedRecord → Type 0
AlwaysHasSlack rs = AllByRecursion (λ r. HasSlack 0 r.of_slot.arrived) rs

-- the matching is one that may be chosen of what the lists of the inputs offer: each input orders its outputs by where
-- their first cells stand, and each output its inputs by the keys of their first cells
pub record IsChosenFor (MayChoose : Orders → Partners → Type 0) (f : Fabric) (m : Partners) : Type 0 where
  pub orders : AreOrdersOf f.inputs (orders_of f.inputs)
  pub chosen : MayChoose (orders_of f.inputs) m

-- both matchings of each slot, after its arrivals and after its departures, are such ones
abbrev pub AreChosen : (Orders → Partners → Type 0) → List LimitedRecord → Type 0
AreChosen MayChoose rs =
    AllByRecursion (λ r. IsChosenFor MayChoose r.of_slot.arrived r.of_slot.first
    × IsChosenFor MayChoose r.of_slot.sent r.of_slot.second) rs

-- all of them are stable ones
abbrev pub AreStable : List LimitedRecord → Type 0
AreStable rs = AreChosen IsStable rs

-- all of them are the input-best ones
abbrev pub AreInputBest : List LimitedRecord → Type 0
AreInputBest rs = AreChosen IsInputBest rs

-- in each slot the arrivals are admitted and refused as in the ideal switch, and each output sends the cell that it
-- sends there, and none where it sends none there
abbrev pub SendsSlotBySlot : Tables → List Arrival → List LimitedRecord → Type 0
SendsSlotBySlot t came rs =
    IsOkAnd (ran_ideal t came) (λ ideal. (gone_in (slots_in rs) ≡ ideal.gone) × (admissions_in rs ≡ ideal.admissions))
