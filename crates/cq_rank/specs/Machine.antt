-- Rank machines: how an output ranks the cells that arrive for it. The level of a cell is that of its class, and comes
-- before its rank.
use Rattle.std.specs.Prelude.{◌≡◌, ◌≢◌, ℕ, ◌<◌, ◌≤◌, List, [], length, Option, Some, None, slice_index_or}
use Rattle.cq_base.specs.declared.cell.Queued.{Queued}
use Rattle.cq_base.specs.declared.setup.ClassRow.{ClassRow}
use Rattle.cq_rank.specs.Classes.{row_at}

-- a machine over states that are lists of numbers
pub record Machine : Type 0 where
  -- how many classes it knows
  pub classes : ℕ
  -- how long its states are
  pub size : ℕ
  -- the level of a class, which no step changes
  pub level : ℕ → ℕ
  -- the rank of a class, of any size
  pub ranked : List ℕ → ℕ → ℕ
  -- the state after the class was given its rank
  pub given : List ℕ → ℕ → List ℕ
  -- the state after a cell of this level and this rank was sent
  pub sent : List ℕ → ℕ → ℕ → List ℕ
  -- the state after a slot in which none was sent
  pub idle : List ℕ → List ℕ
  -- no later rank of the class is below it, up to the next idle slot
  pub floor : List ℕ → ℕ → ℕ

-- what every machine keeps, in each state of its length, at each of its classes and each level
pub record KeepsLaws (m : Machine) : Type 0 where
  -- every step keeps the length
  pub given_length : (s : List ℕ) (c : ℕ) → length s ≡ m.size → c < m.classes → length (m.given s c) ≡ m.size
  pub sent_length : (s : List ℕ) (l r : ℕ) → length s ≡ m.size → length (m.sent s l r) ≡ m.size
  pub idle_length : (s : List ℕ) → length s ≡ m.size → length (m.idle s) ≡ m.size
  -- a rank is at least the floor of its class, and becomes that floor
  pub above : (s : List ℕ) (c : ℕ) → length s ≡ m.size → c < m.classes → m.floor s c ≤ m.ranked s c
  pub given_floor : (s : List ℕ) (c : ℕ) → length s ≡ m.size → c < m.classes → m.floor (m.given s c) c ≡ m.ranked s c
  -- a rank of another class, or a sending, lowers no floor
  pub other_floor : (s : List ℕ) (c d : ℕ) → length s ≡ m.size → c < m.classes → d < m.classes → c ≢ d →
      m.floor s d ≤ m.floor (m.given s c) d
  pub sent_floor : (s : List ℕ) (l r c : ℕ) → length s ≡ m.size → c < m.classes → m.floor s c ≤ m.floor (m.sent s l r) c
  -- two idle slots are one
  pub idle_once : (s : List ℕ) → length s ≡ m.size → m.idle (m.idle s) ≡ m.idle s

-- what clauses see of a value that ranks: the numbers that no call changes, and its machine's state
pub record Ranker : Type 0 where
  pub fixed : List ℕ
  pub state : List ℕ

-- without a state: the rank of a class, like its level, is always the same
abbrev pub steady : ℕ → (ℕ → ℕ) → (ℕ → ℕ) → Machine
steady classes level rank = record {
  classes = classes;
  size = 0;
  level = level;
  ranked = λ s c. rank c;
  given = λ s c. s;
  sent = λ s l r. s;
  idle = λ s. s;
  floor = λ s c. rank c;
}

-- first come, first served: every rank is 0
abbrev pub first_come : List ClassRow → Machine
first_come rows = steady (length rows) (λ c. (row_at rows c).level) (λ c. 0)

-- strict priority: a cell's rank is the priority of its class
abbrev pub priority : List ClassRow → Machine
priority rows = steady (length rows) (λ c. (row_at rows c).level) (λ c. (row_at rows c).priority)

-- the machine of output j
abbrev pub machine_at : List Machine → ℕ → Machine
machine_at ms j = slice_index_or ms j (first_come [])

-- the state after a slot in which the output sent this cell, or none
abbrev pub told : Machine → List ℕ → Option Queued → List ℕ
told m state (Some q) = m.sent state q.key.level q.key.rank
told m state None = m.idle state
