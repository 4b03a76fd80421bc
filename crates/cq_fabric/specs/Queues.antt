-- What clauses see of the lists and buffers of a fabric: the cells that wait there, and how many more could.
use Rattle.std.specs.Prelude.{◌≡◌, ◌≢◌, ℕ, ◌+◌, ◌-◌, ◌<◌, ◌≤◌, ◌^◌, if◌then◌else◌, is_some, All, List, [], length, map, drop, slice_get, slice_index, Option, Some, None}
use Rattle.cq_base.specs.declared.cell.Queued.{Queued}
use Rattle.cq_base.specs.Cells.{HasOtherKey, MoreUrgentAhead, cushion, first_for, with_arrival}
use Rattle.cq_base.specs.Limits.{most_ports}
use Rattle.cq_list.specs.InputList.{Waiting, cells_of}
use Rattle.cq_urgency.specs.OutputBuffer.{Buffered}
use Rattle.cq_prefs.specs.FirstCells.{list_of, HasCellFor, orders_of}
use Rattle.cq_prefs.specs.Orders.{Orders, ports}
use Rattle.cq_xbar.specs.Crossbar.{list_at}
use Rattle.cq_laws.specs.Fabric.{Fabric, IsAmong}
use Rattle.cq_laws.specs.Phases.{came_to}

-- per input the cells of its list, per output those of its buffer, and how many cells each of them can hold
pub record Queues : Type 0 where
  pub inputs : List (List Queued)
  pub buffers : List (List Queued)
  pub from_inputs : List ℕ
  pub to_outputs : List ℕ

-- how many cells a list can hold
abbrev pub list_room : Waiting → ℕ
list_room list = length list.cells + list.spare

-- how many cells a buffer can hold
abbrev pub buffer_room : Buffered → ℕ
buffer_room buffer = length buffer.cells + buffer.spare

-- the fabric of these queues and of machines in these states
abbrev pub fabric_of : Queues → List (List ℕ) → Fabric
fabric_of q ranks = record { inputs = q.inputs; buffers = q.buffers; ranks = ranks }

-- the cell goes into the list of input i: there is room, it is for one of the outputs, its key is new, and the more
-- urgent cells for its output stand below its cushion
pub record FitsList (q : Queues) (i : ℕ) (c : Queued) : Type 0 where
  pub inside : i < length q.inputs
  pub output : c.cell.output < length q.inputs
  pub room : length (list_of q.inputs i) < slice_index q.from_inputs i
  pub other_key : HasOtherKey c (list_of q.inputs i)
  pub ahead : MoreUrgentAhead (cushion c.key (list_of q.buffers c.cell.output)) c (list_of q.inputs i)

-- each cell that came goes into the list of its input
abbrev pub FitLists : List (Option Queued) → Queues → Type 0
FitLists came q = (i : ℕ) (c : Queued) → came_to came i ≡ Some c → FitsList q i c

-- two cells with one key wait at one input
abbrev pub KeysApart : List (List Queued) → Type 0
KeysApart lists = (i k : ℕ) (c d : Queued) →
    IsAmong c (list_of lists i) → IsAmong d (list_of lists k) → c.key ≡ d.key → i ≡ k

-- the keys of the cells that come are new: no waiting cell has one, and no two of these cells have the same
pub record ComeApart (came : List (Option Queued)) (lists : List (List Queued)) : Type 0 where
  pub waiting : KeysApart lists
  pub older : (i k : ℕ) (c d : Queued) → came_to came i ≡ Some c → IsAmong d (list_of lists k) → d.key ≢ c.key
  pub each : (i k : ℕ) (c d : Queued) → came_to came i ≡ Some c → came_to came k ≡ Some d → c.key ≡ d.key → i ≡ k

-- the cells can cross: no cells in different lists have the same key, and where there is a first cell for an output the
-- output's buffer has room and no cell with its key
pub record CanCross (q : Queues) : Type 0 where
  pub apart : KeysApart q.inputs
  pub room : (i j : ℕ) → HasCellFor (list_of q.inputs i) j → length (list_of q.buffers j) < slice_index q.to_outputs j
  pub keys : (i j : ℕ) (c : Queued) → first_for j (list_of q.inputs i) ≡ Some c → HasOtherKey c (list_of q.buffers j)

-- ## One list and one buffer

-- a list after a cell came to it, or none, over these buffers
abbrev pub list_with : List (List Queued) → Option Queued → Waiting → Waiting
list_with buffers None list = list
list_with buffers (Some c) list =
    record {
      cells = with_arrival (cushion c.key (list_of buffers c.cell.output)) c list.cells;
      outputs = list.outputs;
      spare = list.spare - 1;
    }

-- the cell goes into the list, over these buffers
pub record Fits (buffers : List (List Queued)) (list : Waiting) (c : Queued) : Type 0 where
  pub buffer : c.cell.output < length buffers
  pub output : c.cell.output < list.outputs
  pub room : 0 < list.spare
  pub other_key : HasOtherKey c list.cells
  pub ahead : MoreUrgentAhead (cushion c.key (list_of buffers c.cell.output)) c list.cells

-- each cell that came goes into the list of its input
abbrev pub FitEach : List (List Queued) → List (Option Queued) → List Waiting → Type 0
FitEach buffers came lists =
    (i : ℕ) (c : Queued) → i < length lists → came_to came i ≡ Some c → Fits buffers (list_at lists i) c

-- the first cell of a buffer
abbrev pub front_of : Buffered → Option Queued
front_of buffer = slice_get buffer.cells 0

-- the buffer without its first cell
abbrev pub popped : Buffered → Buffered
popped buffer =
    record { cells = drop 1 buffer.cells; spare = buffer.spare + (if is_some (front_of buffer) then 1 else 0) }

-- there are as many lists as buffers, 64 at most, each list is for as many outputs, and so are the offers
pub record AreSquare (lists : List Waiting) (buffers : List Buffered) (offers : ℕ) : Type 0 where
  pub few : length lists ≤ most_ports
  pub as_many : length buffers ≡ length lists
  pub offered : offers ≡ length lists
  pub outputs : All (λ list. list.outputs ≡ length lists) lists

-- and the offers are those of the lists; a number of 64 bits counts the cells that a buffer can hold
pub record AreOffered (lists : List Waiting) (buffers : List Buffered) (offers : Orders) : Type 0 where
  pub square : AreSquare lists buffers (ports offers)
  pub offered : offers ≡ orders_of (cells_of lists)
  pub rooms : All (λ room. room < 2 ^ 64) (map buffer_room buffers)

-- one cell comes to the list of input i of lists that are offered: no waiting cell has its key
pub record Comes (lists : List Waiting) (offers : Orders) (i : ℕ) (c : Queued) : Type 0 where
  pub inside : i < length lists
  pub few : length lists ≤ most_ports
  pub outputs : All (λ list. list.outputs ≡ length lists) lists
  pub offered : offers ≡ orders_of (cells_of lists)
  pub waiting : KeysApart (cells_of lists)
  pub older : (k : ℕ) (d : Queued) → IsAmong d (list_of (cells_of lists) k) → d.key ≢ c.key
