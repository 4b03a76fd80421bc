-- A pool of cells that are linked into a queue for each output, and what clauses see of it.
use Rattle.std.specs.Prelude.{◌≡◌, ◌≢◌, ℕ, zero, suc, ◌+◌, ◌-◌, ◌<◌, ◌≤◌, Bool, List, [], ◌∷◌, length, map, Option, None, Some, slice_index_or}
use Rattle.std.specs.List.{AllByRecursion, position_or_len, sum_by}
use Rattle.slab.specs.Slab.{Slab, get, slab_len}
use Rattle.cq_base.specs.declared.cell.Queued.{Queued}
use Rattle.cq_base.specs.Cells.{IsRising}
use Rattle.cq_list.specs.declared.pool.Node.{Node}
use Rattle.cq_list.specs.declared.pool.Queue.{Queue}
use Rattle.cq_list.specs.declared.fingers.Ahead.{Ahead}
use Rattle.cq_list.specs.Fingers.{EndsAt, AreFingers}
use Rattle.cq_list.specs.Split.{Queues}

-- the queue of each output, and how many more cells there is room for
pub record PoolView : Type 0 where
  pub queues : List (List Queued)
  pub spare : ℕ

-- the queue of an output, where an output beyond the last has none
abbrev pub queue_of : List (List Queued) → Queues
queue_of queues j = slice_index_or queues j []

-- ## The links

-- the node at each place of the pool that is in use
abbrev pub Nodes : Type 0
Nodes = ℕ → Option Node

-- the place of a node with its cell, and then what the next place gives
abbrev pub followed : ℕ → Option Node → (ℕ → List (ℕ × Queued)) → List (ℕ × Queued)
followed place None rest = []
followed place (Some node) rest = (place, node.queued) ∷ rest node.next

-- so many nodes from this place on: the place and the cell of each
abbrev pub chain : Nodes → ℕ → ℕ → List (ℕ × Queued)
chain nodes zero place = []
chain nodes (suc n) place = followed place (nodes place) (chain nodes n)

-- the nodes of a queue
abbrev pub linked : Nodes → Queue → List (ℕ × Queued)
linked nodes queue = chain nodes queue.len queue.first

-- their places in the pool
abbrev pub places : List (ℕ × Queued) → List ℕ
places chained = map (λ e. e.0) chained

-- and their cells
abbrev pub cells : List (ℕ × Queued) → List Queued
cells chained = map (λ e. e.1) chained

-- all nodes of the queue are there, its cells rise in their keys, and it knows the place of its last node
pub record IsChained (nodes : Nodes) (queue : Queue) : Type 0 where
  pub whole : length (linked nodes queue) ≡ queue.len
  pub rising : IsRising (cells (linked nodes queue))
  pub last : EndsAt (places (linked nodes queue)) queue.len queue.last

-- and its cells are for output j
pub record IsLinked (nodes : Nodes) (j : ℕ) (queue : Queue) : Type 0 where
  pub chained : IsChained nodes queue
  pub own : AllByRecursion (λ c. c.cell.output ≡ j) (cells (linked nodes queue))

-- the queue with no cell
abbrev pub no_queue : Queue
no_queue = record { first = 0; last = 0; len = 0 }

-- the queue without its first node, which leads on to this place
abbrev pub behind_first : Queue → ℕ → Queue
behind_first queue next = record { first = next; last = queue.last; len = queue.len - 1 }

-- the queue of an output
abbrev pub queue_at : List Queue → ℕ → Queue
queue_at queues j = slice_index_or queues j no_queue

-- each queue is linked
abbrev pub AreLinked : Nodes → List Queue → Type 0
AreLinked nodes queues = (j : ℕ) → IsLinked nodes j (queue_at queues j)

-- the queue of output j, which has a cell, and its first node
pub record IsHead (nodes : Nodes) (queues : List Queue) (j : ℕ) (queue : Queue) (node : Node) : Type 0 where
  pub inside : j < length queues
  pub read : queue_at queues j ≡ queue
  pub some : 0 < queue.len
  pub here : nodes queue.first ≡ Some node

-- each queue has its fingers
abbrev pub HaveFingers : Nodes → List Queue → List (List Ahead) → Type 0
HaveFingers nodes queues fingers = (j : ℕ) → AreFingers (places (linked nodes (queue_at queues j)))
    (slice_index_or fingers j [])

-- the cells of each queue
abbrev pub cells_in_queues : Nodes → List Queue → List (List Queued)
cells_in_queues nodes queues = map (λ queue. cells (linked nodes queue)) queues

-- the nodes with cells for other outputs than j stay
abbrev pub OthersStay : ℕ → Nodes → Nodes → Type 0
OthersStay j old new = (i : ℕ) (node : Node) → old i ≡ Some node → node.queued.cell.output ≢ j → new i ≡ Some node

-- what holds of each pool: its queues are linked and have fingers, they have all its nodes, and there is memory for its
-- room
pub record IsPool (nodes : Slab Node) (queues : List Queue) (fingers : List (List Ahead)) (room : ℕ) : Type 0 where
  pub linked : AreLinked (get nodes) queues
  pub have_fingers : HaveFingers (get nodes) queues fingers
  pub even : length fingers ≡ length queues
  pub counted : sum_by (λ queue. queue.len) queues ≡ slab_len nodes
  pub fits : slab_len nodes ≤ room
  pub memory : room ≤ nodes.capacity

-- the pool has one node more, and the nodes with cells for other outputs than j stay
pub record HasOneMore (j : ℕ) (old new : Slab Node) : Type 0 where
  pub others : OthersStay j (get old) (get new)
  pub len : slab_len new ≡ slab_len old + 1
  pub capacity : new.capacity ≡ old.capacity

-- ## What stands ahead of a place in a queue

-- so many nodes stand ahead of the first cell that passes a test, and the last of them is known
pub record LeadsTo (p : Queued → Bool) (chained : List (ℕ × Queued)) (ahead : Ahead) : Type 0 where
  pub count : ahead.count ≡ position_or_len p (cells chained)
  pub last : EndsAt (places chained) ahead.count ahead.last

-- so many of the nodes that stand ahead of the first cell that passes a test, of which the last is known
pub record LeadsTowards (p : Queued → Bool) (chained : List (ℕ × Queued)) (ahead : Ahead) : Type 0 where
  pub count : ahead.count ≤ position_or_len p (cells chained)
  pub last : EndsAt (places chained) ahead.count ahead.last
