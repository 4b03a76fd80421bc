-- What clauses see of the parts of an ideal switch, and of the cells of a slot that go through them.
use Rattle.std.specs.Prelude.{◌≡◌, ◌≢◌, ℕ, ◌+◌, ◌-◌, ◌<◌, ◌≤◌, ◌^◌, length, slice_index, Bool, false, if◌then◌else◌, List, [], ◌∷◌, Option, Some, None, Result, slice_set, slice_index_or}
use Rattle.cq_base.specs.declared.cell.Queued.{Queued}
use Rattle.cq_base.specs.declared.cell.TagFault.{TagFault}
use Rattle.cq_base.specs.Cells.{ArrivedBefore, HasOtherKey, is_for, put}
use Rattle.cq_base.specs.Limits.{most_ports}
use Rattle.cq_rank.specs.Machine.{Machine, machine_at}
use Rattle.cq_rank.specs.Switch.{AreForOneSwitch}
use Rattle.cq_ideal.specs.IdealSlot.{IdealState, all_told, rests}
use Rattle.cq_ideal.specs.Limiter.{HoldsLists, LimiterView}
use Rattle.cq_ideal.specs.Ranking.{Ranking, after_input}

-- the rank machines: the numbers that give them, and their states
pub record RanksView : Type 0 where
  pub fixed : List (List ℕ)
  pub states : List (List ℕ)

-- a list of cells, and how many it can hold
pub record QueueView : Type 0 where
  pub cells : List Queued
  pub room : ℕ

-- it has no more cells than it can hold
abbrev pub IsWithin : QueueView → Type 0
IsWithin q = (length q.cells ≤ q.room) × (q.room < 2 ^ 64)

-- per output its list, and how many cells that can hold
pub record QueuesView : Type 0 where
  pub lists : List (List Queued)
  pub rooms : List ℕ

-- the list of an output
abbrev pub list_at : List (List Queued) → ℕ → List Queued
list_at lists j = slice_index_or lists j []

-- the lists with one cell more, in the list of its output
abbrev pub with_cell : Queued → List (List Queued) → List (List Queued)
with_cell q lists = slice_set lists q.cell.output (put q (list_at lists q.cell.output))

-- the list of the cell's output has room for it, and no cell of its key
pub record CanPut (q : Queued) (queues : QueuesView) : Type 0 where
  pub output : q.cell.output < length queues.lists
  pub room : length (list_at queues.lists q.cell.output) < slice_index queues.rooms q.cell.output
  pub other_key : HasOtherKey q (list_at queues.lists q.cell.output)

-- the level of the class, as output j's machine knows it
abbrev pub level_at : List Machine → ℕ → ℕ → ℕ
level_at ms j class = (machine_at ms j).level class

-- the rank that a cell of the class gets of output j
abbrev pub rank_at : List Machine → List (List ℕ) → ℕ → ℕ → ℕ
rank_at ms ranks j class = (machine_at ms j).ranked (slice_index_or ranks j []) class

-- the rank states after that
abbrev pub given_at : List Machine → List (List ℕ) → ℕ → ℕ → List (List ℕ)
given_at ms ranks j class = slice_set ranks j ((machine_at ms j).given (slice_index_or ranks j []) class)

-- each machine is told which cell its output sent, or that it was idle
pub record AreTold (ms : List Machine) (gone : List (Option Queued)) (old new : RanksView) : Type 0 where
  pub fixed : new.fixed ≡ old.fixed
  pub states : new.states ≡ all_told ms gone old.states

-- the first cell of each list has left it
pub record FirstsHaveLeft (old new : QueuesView) : Type 0 where
  pub lists : new.lists ≡ rests old.lists
  pub rooms : new.rooms ≡ old.rooms

-- the state of a switch of these parts
abbrev pub state_of : RanksView → QueuesView → IdealState
state_of ranks queues = record { lists = queues.lists; ranks = ranks.states }

-- the machines are for one switch, and the parts have as many outputs as there are machines
pub record FitTogether (ms : List Machine) (ranks : RanksView) (queues : QueuesView) : Type 0 where
  pub machines : AreForOneSwitch ms
  pub fixed : length ranks.fixed ≡ length ms
  pub states : length ranks.states ≡ length ms
  pub lists : length queues.lists ≡ length ms
  pub rooms : length queues.rooms ≡ length ms

-- each cell of the lists arrived before this slot
abbrev pub AllArrivedBefore : ℕ → List (List Queued) → Type 0
AllArrivedBefore slot lists = (j : ℕ) → ArrivedBefore slot (list_at lists j)

-- the parts fit, each cell that waits arrived before the next slot, and while the switch runs its outputs hold the
-- cells of its lists
pub record AreParts (ms : List Machine) (ranks : RanksView) (queues : QueuesView) (limiter : LimiterView) (next : ℕ)
    (stopped : Bool) : Type 0 where
  pub fit : FitTogether ms ranks queues
  pub limits : length limiter.limits ≡ length ms
  pub marks : length limiter.marks ≡ length ms
  pub arrived : AllArrivedBefore next queues.lists
  pub holds : stopped ≡ false → HoldsLists queues.lists limiter

-- no list has more cells than it can hold
abbrev pub AreWithinRooms : QueuesView → Type 0
AreWithinRooms queues = (j : ℕ) → length (list_at queues.lists j) ≤ slice_index queues.rooms j

-- ## The cells of a slot

-- a ranking, with what came to the inputs before it in front
abbrev pub after_inputs : List (Option Queued) → Result Ranking TagFault → Result Ranking TagFault
after_inputs [] x = x
after_inputs (q ∷ came) x = after_input q (after_inputs came x)

-- the lists with the cell that came to an input, if one did
abbrev pub with_came : Option Queued → List (List Queued) → List (List Queued)
with_came None lists = lists
with_came (Some q) lists = with_cell q lists

-- how many of the cells that came are for output j
abbrev pub count_to : ℕ → List (Option Queued) → ℕ
count_to j [] = 0
count_to j (None ∷ came) = count_to j came
count_to j (Some q ∷ came) = (if is_for j q then 1 else 0) + count_to j came

-- each cell came to one of the ports, and is for one of them
pub record CameToPorts (ports : ℕ) (came : List (Option Queued)) : Type 0 where
  pub places : length came ≡ most_ports
  pub inputs : (k : ℕ) (q : Queued) → slice_index_or came k None ≡ Some q → k < ports
  pub outputs : (k : ℕ) (q : Queued) → slice_index_or came k None ≡ Some q → q.cell.output < ports

-- each list has room for the cells that came for it
abbrev pub HaveRoomFor : List (Option Queued) → QueuesView → Type 0
HaveRoomFor came queues =
    (j : ℕ) → j < length queues.rooms → count_to j came ≤ slice_index queues.rooms j - length (list_at queues.lists j)

-- no cell that came has the key of one that waits, nor that of another that came
pub record HaveOwnKeys (came : List (Option Queued)) (lists : List (List Queued)) : Type 0 where
  pub waiting : (k : ℕ) (q : Queued) → slice_index_or came k None ≡ Some q → (j : ℕ) → HasOtherKey q (list_at lists j)
  pub others :
      (k n : ℕ) (q r : Queued) → k < n → slice_index_or came k None ≡ Some q → slice_index_or came n None ≡ Some r →
      q.key ≢ r.key
