-- When a fabric agrees with an ideal switch, and what it is that they send the same.
use Rattle.std.specs.Prelude.{◌≡◌, ℕ, ◌+◌, ◌↔◌, List, length, Option, Ok, Err}
use Rattle.std.specs.List.{AllByRecursion}
use Rattle.cq_base.specs.Arriving.{Arrival}
use Rattle.cq_base.specs.declared.cell.Cell.{Cell}
use Rattle.cq_base.specs.declared.cell.Queued.{Queued}
use Rattle.cq_base.specs.declared.cell.TagFault.{TagFault}
use Rattle.cq_base.specs.Cells.{IsRising}
use Rattle.cq_rank.specs.Machine.{Machine}
use Rattle.cq_prefs.specs.FirstCells.{list_of}
use Rattle.cq_prefs.specs.Orders.{Orders}
use Rattle.cq_prefs.specs.Pairing.{Partners}
use Rattle.cq_ideal.specs.Ending.{slots_of_run, whole_ideal_run}
use Rattle.cq_ideal.specs.IdealSlot.{IdealState, ideal_slot}
use Rattle.cq_ideal.specs.IdealRun.{empty_ideal, ideal_run}
use Rattle.cq_ideal.specs.Ranking.{AreForPorts}
use Rattle.cq_laws.specs.Fabric.{Fabric, IsAmong, IsFabric, ListsKeepOrder, empty_fabric}
use Rattle.cq_laws.specs.Places.{HasFor, NoKeyTwice, AllBefore}
use Rattle.cq_laws.specs.Slack.{HasSlack}
use Rattle.cq_laws.specs.FabricRun.{FabricRun, FabricStops, IsFault}
use Rattle.cq_laws.specs.FabricSlot.{FabricSlot, SlotRecord}
use Rattle.cq_laws.specs.Records.{gone_in}

-- Between two slots: the ideal list of each output has, in the order of keys, the cells for that output that the
-- fabric has, wherever they stand, and each cell that waits at an input has slack 1 at least.
pub record Agrees (slot : ℕ) (f : Fabric) (ideal : IdealState) : Type 0 where
  pub fabric : IsFabric f
  pub ports : length ideal.lists ≡ length f.inputs
  pub ranks : f.ranks ≡ ideal.ranks
  pub rising : (j : ℕ) → IsRising (list_of ideal.lists j)
  pub same : (j : ℕ) (c : Queued) → IsAmong c (list_of ideal.lists j) ↔ HasFor f j c
  pub order : ListsKeepOrder f
  pub differ : NoKeyTwice f
  pub earlier : AllBefore slot f
  pub slack : HasSlack 1 f

-- in this slot the ideal switch sends these cells, and then agrees with the fabric
pub record SendsAlike (ms : List Machine) (slot : ℕ) (cells : List (Option Cell)) (ideal : IdealState)
    (gone : List (Option Queued)) (f : Fabric) : Type 0 where
  pub next : IdealState
  pub sent : ideal_slot ms slot cells ideal ≡ Ok (record { gone = gone; after = next })
  pub agrees : Agrees (slot + 1) f next

-- in the slots from this one on the ideal switch sends what these records say, and then agrees with the fabric
pub record RunsAlike (ms : List Machine) (slot : ℕ) (traffic : List (List (Option Cell))) (ideal : IdealState)
    (rs : List SlotRecord) (f : Fabric) : Type 0 where
  pub after : IdealState
  pub ran : ideal_run ms slot traffic ideal ≡ Ok (record { gone = gone_in rs; after = after })
  pub agrees : Agrees (slot + length traffic) f after

-- the whole run of the ideal switch has as many slots as there are records, and sends in them what these say; at its
-- end the fabric agrees with it
pub record EndsAlike (ms : List Machine) (came : List Arrival) (ideal : IdealState) (rs : List SlotRecord)
    (f : Fabric) : Type 0 where
  pub after : IdealState
  pub slots : slots_of_run ms came ideal ≡ length rs
  pub ran : whole_ideal_run ms came ideal ≡ Ok (record { gone = gone_in rs; after = after })
  pub agrees : Agrees (length rs) f after

-- Of switches that know no limits: from states that agree both send the same in a slot and agree again, or have the
-- same tag fault, and so they do over whole runs.
pub record ActAlikeWithoutLimits (MayChoose : Orders → Partners → Type 0) (ms : List Machine) : Type 0 where
  pub slot : (slot class_count : ℕ) (cells : List (Option Cell)) (f g : Fabric) (ideal : IdealState)
      (r : SlotRecord) →
      Agrees slot f ideal → AreForPorts (length f.inputs) class_count cells →
      FabricSlot MayChoose ms slot cells f r g → SendsAlike ms slot cells ideal r.gone g
  pub fault : (slot : ℕ) (cells : List (Option Cell)) (f : Fabric) (ideal : IdealState) (fault : TagFault) →
      Agrees slot f ideal → (ideal_slot ms slot cells ideal ≡ Err fault) ↔ IsFault ms slot cells f fault
  pub run : (slot class_count : ℕ) (traffic : List (List (Option Cell))) (f g : Fabric) (ideal : IdealState)
      (rs : List SlotRecord) →
      Agrees slot f ideal → AllByRecursion (AreForPorts (length f.inputs) class_count) traffic →
      FabricRun MayChoose ms slot traffic f rs g → RunsAlike ms slot traffic ideal rs g
  pub stop : (slot class_count : ℕ) (traffic : List (List (Option Cell))) (f : Fabric) (ideal : IdealState)
      (rs : List SlotRecord) (fault : TagFault) →
      Agrees slot f ideal → AllByRecursion (AreForPorts (length f.inputs) class_count) traffic →
      FabricStops MayChoose ms slot traffic f rs fault → ideal_run ms slot traffic ideal ≡ Err fault

-- so they do from states without cells on
pub record ActAlikeFromEmptyWithoutLimits (MayChoose : Orders → Partners → Type 0) (ms : List Machine) : Type 0 where
  pub run : (ports class_count : ℕ) (ranks : List (List ℕ)) (traffic : List (List (Option Cell)))
      (rs : List SlotRecord) (g : Fabric) →
      AllByRecursion (AreForPorts ports class_count) traffic →
      FabricRun MayChoose ms 0 traffic (empty_fabric ports ranks) rs g →
      RunsAlike ms 0 traffic (empty_ideal ports ranks) rs g
  pub stop : (ports class_count : ℕ) (ranks : List (List ℕ)) (traffic : List (List (Option Cell)))
      (rs : List SlotRecord) (fault : TagFault) →
      AllByRecursion (AreForPorts ports class_count) traffic →
      FabricStops MayChoose ms 0 traffic (empty_fabric ports ranks) rs fault →
      ideal_run ms 0 traffic (empty_ideal ports ranks) ≡ Err fault
