-- One slot of the fabric, as a relation of its old state, what arrives, what is recorded of it, and its new state.
use Rattle.std.specs.Prelude.{◌≡◌, ℕ, List, Option}
use Rattle.cq_base.specs.declared.cell.Cell.{Cell}
use Rattle.cq_base.specs.declared.cell.Queued.{Queued}
use Rattle.cq_rank.specs.Machine.{Machine}
use Rattle.cq_prefs.specs.Orders.{Orders}
use Rattle.cq_prefs.specs.Pairing.{Partners}
use Rattle.cq_prefs.specs.FirstCells.{orders_of}
use Rattle.cq_laws.specs.Fabric.{Fabric, IsWholeFabric}
use Rattle.cq_laws.specs.Phases.{Arrives, Transfers, Departs}

-- what is recorded of a slot: the cells that arrived, with their keys, by input; the state after the arrivals; the
-- first matching, and the state after its transfer; the cells that were sent, by output, and the state after that;
-- and the second matching
pub record SlotRecord : Type 0 where
  pub slot : ℕ
  pub came : List (Option Queued)
  pub arrived : Fabric
  pub first : Partners
  pub filled : Fabric
  pub gone : List (Option Queued)
  pub sent : Fabric
  pub second : Partners

-- one slot, in which each of the two matchings is one that may be chosen for the offers of its moment
pub record FabricSlot (MayChoose : Orders → Partners → Type 0) (ms : List Machine) (slot : ℕ)
    (cells : List (Option Cell)) (old : Fabric) (r : SlotRecord) (new : Fabric) : Type 0 where
  pub numbered : r.slot ≡ slot
  pub arrive : Arrives ms slot cells r.came old r.arrived
  pub first_chosen : MayChoose (orders_of r.arrived.inputs) r.first
  pub fill : Transfers r.first r.arrived r.filled
  pub depart : Departs ms r.gone r.filled r.sent
  pub second_chosen : MayChoose (orders_of r.sent.inputs) r.second
  pub finish : Transfers r.second r.sent new

-- the state is a fabric's at each moment of the slot
pub record EachIsWhole (f : Fabric) (r : SlotRecord) (g : Fabric) : Type 0 where
  pub old : IsWholeFabric f
  pub arrived : IsWholeFabric r.arrived
  pub filled : IsWholeFabric r.filled
  pub sent : IsWholeFabric r.sent
  pub new : IsWholeFabric g
