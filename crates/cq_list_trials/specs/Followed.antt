-- Only proofs use this.
-- Lists that change one after another: to one comes a cell, or a first cell leaves it, or it stays.
use Rattle.std.specs.Prelude.{◌≡◌, ℕ, ◌+◌, ◌<◌, ◌≤◌, ◌⊎◌, All, List, insert, length, slice_index_or}
use Rattle.std.specs.List.{AllByRecursion}
use Rattle.cq_base.specs.Limits.{most_ports}
use Rattle.cq_base.specs.declared.cell.Queued.{Queued}
use Rattle.cq_base.specs.Cells.{ArrivedBefore, without_first}
use Rattle.cq_list.specs.InputList.{Waiting, cells_of}
use Rattle.cq_prefs.specs.FirstCells.{orders_of}
use Rattle.cq_prefs.specs.Orders.{Orders}

-- the cells of the list are those of input i, they came in slots before this one, and there is room for 32
pub record IsOwn (slot i : ℕ) (list : Waiting) : Type 0 where
  pub input : AllByRecursion (λ c. c.key.input ≡ i) list.cells
  pub older : ArrivedBefore slot list.cells
  pub room : list.spare + length list.cells ≡ 32

-- each list is its input's own
abbrev pub AreOwn : ℕ → List Waiting → Type 0
AreOwn slot lists = (i : ℕ) (none : Waiting) → i < length lists → IsOwn slot i (slice_index_or lists i none)

-- a cell for output j came
pub record HasCome (j : ℕ) (old new : List Queued) : Type 0 where
  pub cell : Queued
  pub place : ℕ
  pub output : cell.cell.output ≡ j
  pub cells : new ≡ insert old place cell

-- a cell for output j came, or the first one for it went
abbrev pub HasChanged : ℕ → List Queued → List Queued → Type 0
HasChanged j old new = HasCome j old new ⊎ (new ≡ without_first j old)

-- the lists of a switch with their offers
pub record IsFollowed (slot : ℕ) (lists : List Waiting) (offers : Orders) : Type 0 where
  pub some : 0 < length lists
  pub few : length lists ≤ most_ports
  pub outputs : All (λ list. list.outputs ≡ length lists) lists
  pub own : AreOwn slot lists
  pub offered : offers ≡ orders_of (cells_of lists)
