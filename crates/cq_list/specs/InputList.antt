-- What clauses see of the list of cells that wait at an input.
use Rattle.std.specs.Prelude.{◌≡◌, ℕ, ◌<◌, ◌≤◌, List, length, map}
use Rattle.std.specs.List.{AllByRecursion}
use Rattle.cq_base.specs.declared.cell.Queued.{Queued}
use Rattle.cq_base.specs.Cells.{KeepsOrder, KeysDiffer}
use Rattle.cq_base.specs.Limits.{most_ports}
use Rattle.cq_list.specs.Split.{IsSplit, merged}
use Rattle.cq_list.specs.Places.{PlacesView}
use Rattle.cq_list.specs.Pool.{PoolView, queue_of}

-- the cells in order, how many outputs there are, and how many more cells there is room for
pub record Waiting : Type 0 where
  pub cells : List Queued
  pub outputs : ℕ
  pub spare : ℕ

-- what holds of the cells of each list
pub record AreWaiting (outputs : ℕ) (cells : List Queued) : Type 0 where
  pub few : outputs ≤ most_ports
  pub in_range : AllByRecursion (λ x. x.cell.output < outputs) cells
  pub in_order : KeepsOrder cells
  pub keys_differ : KeysDiffer cells

-- the cells of each of some lists
abbrev pub cells_of : List Waiting → List (List Queued)
cells_of lists = map (λ list. list.cells) lists

-- the cells for which places and a pool of queues stand
abbrev pub cells_in : PlacesView → PoolView → List Queued
cells_in places pool = merged places.outputs (queue_of pool.queues)

-- the places and the pool stand for these cells
pub record StandFor (outputs : ℕ) (places : PlacesView) (pool : PoolView) (cells : List Queued) : Type 0 where
  pub waiting : AreWaiting outputs cells
  pub split : IsSplit places.outputs (queue_of pool.queues) cells
  pub queues : length pool.queues ≡ outputs
  pub spare : places.spare ≡ pool.spare
