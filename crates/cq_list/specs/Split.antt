-- A list of cells, split into the sequence of its outputs and a queue of cells for each output.
use Rattle.std.specs.Prelude.{◌≡◌, ℕ, ◌+◌, ◌-◌, ◌&&◌, ◌==◌, Bool, if◌then◌else◌, List, [], ◌∷◌, ◌++◌, length, map, filter, take, drop}
use Rattle.cq_base.specs.declared.cell.Queued.{Queued}
use Rattle.cq_base.specs.Cells.{is_for}

-- a queue for each output
abbrev pub Queues : Type 0
Queues = ℕ → List Queued

-- the queues without the head of output j's
abbrev pub without_head : ℕ → Queues → Queues
without_head j queues i = if j == i then drop 1 (queues i) else queues i

-- the list for which they stand, where the k-th place of output j stands for the k-th cell of j's queue: the first
-- place stands for the head of the queue of its output, and the other places for what is left without this head
abbrev pub merged : List ℕ → Queues → List Queued
merged [] queues = []
merged (j ∷ places) queues = take 1 (queues j) ++ merged places (without_head j queues)

-- the places have the outputs of these cells in order, and each queue has the cells for its output in order
pub record IsSplit (places : List ℕ) (queues : Queues) (cells : List Queued) : Type 0 where
  pub outputs : places ≡ map (λ c. c.cell.output) cells
  pub queued : (j : ℕ) → queues j ≡ filter (is_for j) cells

-- the place of the item number k, from 0, of those that pass, or the length where no more than k pass
abbrev pub place_of_nth : {X : Type 0} → (X → Bool) → ℕ → List X → ℕ
place_of_nth p k [] = 0
place_of_nth p k (x ∷ xs) = if p x && k == 0 then 0 else 1 + place_of_nth p (if p x then k - 1 else k) xs

-- whether a place is output j's
abbrev pub is_output : ℕ → ℕ → Bool
is_output j i = i == j

-- how many of some places are output j's
abbrev pub count_of : ℕ → List ℕ → ℕ
count_of j places = length (filter (is_output j) places)
