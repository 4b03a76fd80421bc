-- What is known of a slot, call by call. Its cells come and have their keys. They stand in the lists of their inputs.
-- The pairs of a stable matching cross. The outputs send, and the machines are told. A limiter counts what came for
-- each output. Each of these is a record over what stood there before and what stands there
-- after, so that a lemma on a slot takes one argument for each call.
use Rattle.cq_fabric.proofs.Terms.{◌≡◌, ℕ, ◌+◌, ◌-◌, ◌<◌, ◌≤◌, List, [], length, get_or, Option, Some, Ok, if◌then◌else◌, is_some, Cell, Queued, arrival_at, Machine, count_for, IdealState, all_told, fronts, rests, LimiterView, AreForPorts, ranking, list_of, orders_of, Moves, Partners, IsStable, Agrees, waiting_for, came_to, list_arrived, Queues, fabric_of}

-- ## The cells

-- the list of each input at which a cell comes has room for it
abbrev pub ListsHaveRoom : Queues → List (Option Cell) → Type 0
ListsHaveRoom q cells = (i : ℕ) (cell : Cell) → arrival_at cells i ≡ Some cell →
    0 < get_or q.from_inputs i 0 - length (list_of q.inputs i)

-- the buffer of each of so many outputs has room for all cells for it that wait or come
abbrev pub BuffersHaveRoom : ℕ → Queues → List (Option Cell) → Type 0
BuffersHaveRoom ports q cells = (j : ℕ) → j < ports →
    waiting_for j q.inputs + count_for j cells ≤ get_or q.to_outputs j 0 - length (list_of q.buffers j)

-- the cells that come have their keys, and the fabric agrees with an ideal switch
pub record AreRanked (ms : List Machine) (slot : ℕ) (q : Queues) (ranks : List (List ℕ)) (cells : List (Option Cell))
    (classes : ℕ) (came : List (Option Queued)) (ranks' : List (List ℕ)) : Type 0 where
  pub ideal : IdealState
  pub agrees : Agrees slot (fabric_of q ranks) ideal
  pub ports : length q.inputs ≡ length ms
  pub for_ports : AreForPorts (length ms) classes cells
  pub ranked : ranking ms slot 0 cells ranks ≡ Ok (record { came = came; ranks = ranks' })

-- they stand in the lists of their inputs
pub record HaveArrived (q : Queues) (came : List (Option Queued)) (q' : Queues) : Type 0 where
  pub ports : length q'.inputs ≡ length q.inputs
  pub lists : (i : ℕ) → list_of q'.inputs i ≡ list_arrived (fabric_of q []) (came_to came i) (list_of q.inputs i)
  pub buffers : q'.buffers ≡ q.buffers
  pub to_outputs : q'.to_outputs ≡ q.to_outputs

-- the first cells of the pairs of a stable matching have crossed
pub record HaveMoved (m : Partners) (q q' : Queues) : Type 0 where
  pub stable : IsStable (orders_of q.inputs) m
  pub moves : Moves m q.inputs q.buffers q'.inputs q'.buffers

-- after that, each output has sent the first cell of its buffer, and its machine was told; the rooms are as before the
-- matching
pub record HaveSent (ms : List Machine) (first : Queues) (ranks : List (List ℕ)) (q : Queues) (ranks' : List (List ℕ))
    (q' : Queues) : Type 0 where
  pub inputs : q'.inputs ≡ q.inputs
  pub buffers : q'.buffers ≡ rests q.buffers
  pub told : ranks' ≡ all_told ms (fronts q.buffers) ranks
  pub to_outputs : q'.to_outputs ≡ first.to_outputs

-- ## The numbers of a limiter

-- 1 where an output sent a cell
abbrev pub bit : Option Queued → ℕ
bit gone = if is_some gone then 1 else 0

-- the cells that come were judged: each output holds those for it too
pub record HaveJudged (cells : List (Option Cell)) (before judged : LimiterView) : Type 0 where
  pub limits : judged.limits ≡ before.limits
  pub as_many : length judged.held ≡ length before.limits
  pub more : (j : ℕ) → j < length before.limits → get_or judged.held j 0 ≡ get_or before.held j 0 + count_for j cells
