-- The state of the fabric (Chuang, Goel, McKeown and Prabhakar 1999): cells wait at the inputs, and cells that have
-- crossed wait at the outputs.
use Rattle.std.specs.Prelude.{◌≡◌, ℕ, ◌<◌, List, [], length, All, replicate}
use Rattle.cq_base.specs.declared.cell.Queued.{Queued}
use Rattle.cq_base.specs.Cells.{IsRising, KeepsOrder, cushion}
use Rattle.cq_base.specs.Items.{Has}
use Rattle.cq_prefs.specs.FirstCells.{list_of}

-- per input the list of its cells, per output the buffer of its cells in the order of their keys, and per output the
-- state of its rank machine
pub record Fabric : Type 0 where
  pub inputs : List (List Queued)
  pub buffers : List (List Queued)
  pub ranks : List (List ℕ)

-- the list of input i
abbrev pub input : Fabric → ℕ → List Queued
input f i = list_of f.inputs i

-- the buffer of output j
abbrev pub buffer : Fabric → ℕ → List Queued
buffer f j = list_of f.buffers j

-- the cell is one of the list
abbrev pub IsAmong : Queued → List Queued → Type 0
IsAmong c xs = Has xs c

-- there are as many outputs as inputs, each cell is for one of them, and the cells of a buffer are for its output and
-- stand in the order of their keys
pub record IsFabric (f : Fabric) : Type 0 where
  pub square : length f.buffers ≡ length f.inputs
  pub outputs : (i : ℕ) (c : Queued) → IsAmong c (input f i) → c.cell.output < length f.inputs
  pub own : (j : ℕ) (c : Queued) → IsAmong c (buffer f j) → c.cell.output ≡ j
  pub rising : (j : ℕ) → IsRising (buffer f j)

-- and there is one rank state for each output
pub record IsWholeFabric (f : Fabric) : Type 0 where
  pub fabric : IsFabric f
  pub ranks : length f.ranks ≡ length f.inputs

-- in the list of each input the cells for one output stand in the order of their keys
abbrev pub ListsKeepOrder : Fabric → Type 0
ListsKeepOrder f = (i : ℕ) → KeepsOrder (input f i)

-- how many cells in the buffer of a cell's output are more urgent: its output cushion
abbrev pub cushion_of : Fabric → Queued → ℕ
cushion_of f c = cushion c.key (buffer f c.cell.output)

-- nothing waits, and the rank machines are in these states
abbrev pub empty_fabric : ℕ → List (List ℕ) → Fabric
empty_fabric ports ranks = record { inputs = replicate ports []; buffers = replicate ports []; ranks = ranks }

-- no cell waits anywhere
pub record IsEmptyFabric (f : Fabric) : Type 0 where
  pub inputs : All (λ cells. cells ≡ []) f.inputs
  pub buffers : All (λ cells. cells ≡ []) f.buffers
