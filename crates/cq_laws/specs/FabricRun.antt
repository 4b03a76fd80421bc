-- Whole runs of the fabric. The traffic is what arrives in each slot.
use Rattle.std.specs.Prelude.{◌≡◌, ℕ, List, take, Option, Err}
use Rattle.cq_base.specs.Arriving.{Arrival}
use Rattle.cq_base.specs.declared.cell.Cell.{Cell}
use Rattle.cq_base.specs.declared.cell.TagFault.{TagFault}
use Rattle.cq_rank.specs.Machine.{Machine}
use Rattle.cq_ideal.specs.IdealRun.{departures_of}
use Rattle.cq_ideal.specs.Ranking.{ranking}
use Rattle.cq_prefs.specs.Orders.{Orders}
use Rattle.cq_prefs.specs.Pairing.{Partners}
use Rattle.cq_laws.specs.Fabric.{Fabric, IsEmptyFabric}
use Rattle.cq_laws.specs.FabricSlot.{SlotRecord, FabricSlot}
use Rattle.cq_laws.specs.Measures.{figures_of}
use Rattle.cq_laws.specs.Records.{gone_in, transfers_of_run}
use Rattle.cq_laws.specs.SlotBySlot.{RunBy, StopBy, WholeBy}

-- one record a slot, from this slot on, each from the state in which the one before it ended
abbrev pub FabricRun : (Orders → Partners → Type 0) → List Machine → ℕ → List (List (Option Cell)) → Fabric →
    List SlotRecord → Fabric → Type 0
FabricRun MayChoose ms slot traffic old rs new = RunBy (FabricSlot MayChoose ms) slot traffic old rs new

-- the whole run over all cells that arrive, from slot 0 on: one record a slot, up to the last in which a cell
-- arrives, waits or leaves
abbrev pub WholeRun : (Orders → Partners → Type 0) → List Machine → List Arrival → Fabric → List SlotRecord → Fabric →
    Type 0
WholeRun MayChoose ms came start rs end = WholeBy (FabricSlot MayChoose ms) IsEmptyFabric came start rs end

-- the first rank that does not fit is the tag fault of the slot
abbrev pub IsFault : List Machine → ℕ → List (Option Cell) → Fabric → TagFault → Type 0
IsFault ms slot cells f fault = ranking ms slot 0 cells f.ranks ≡ Err fault

-- the records of some slots, and then a slot with a tag fault
abbrev pub FabricStops : (Orders → Partners → Type 0) → List Machine → ℕ → List (List (Option Cell)) → Fabric →
    List SlotRecord → TagFault → Type 0
FabricStops MayChoose ms slot traffic old rs fault =
    StopBy (FabricSlot MayChoose ms) (IsFault ms) slot traffic old rs fault

-- the first of these records are the whole run, and the others add no departure, no transfer and nothing to the figures
pub record BeginsWhole (MayChoose : Orders → Partners → Type 0) (ms : List Machine) (came : List Arrival)
    (start : Fabric) (rs : List SlotRecord) : Type 0 where
  pub slots : ℕ
  pub end : Fabric
  pub whole : WholeRun MayChoose ms came start (take slots rs) end
  pub departures : departures_of 0 (gone_in (take slots rs)) ≡ departures_of 0 (gone_in rs)
  pub transfers : transfers_of_run (take slots rs) ≡ transfers_of_run rs
  pub figures : (ports : ℕ) → figures_of ports (take slots rs) ≡ figures_of ports rs
