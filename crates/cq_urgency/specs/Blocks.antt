-- Cells in blocks: how a block keeps its cells, which block stands where, and what clauses see of the blocks.
use Rattle.std.specs.Prelude.{◌≡◌, ◌≢◌, ℕ, ◌+◌, ◌<◌, ◌≤◌, ◌==◌, nat_lt, Bool, true, false, if◌then◌else◌, List, [], ◌∷◌, ◌++◌, length, map, take, drop, insert, slice_index_or, slice_set}
use Rattle.std.specs.List.{sum_by}
use Rattle.cq_base.specs.declared.cell.Queued.{Queued}

-- the most cells of a block
abbrev pub most_cells : ℕ
most_cells = 64

-- the cells of each half of a full block
abbrev pub half_cells : ℕ
half_cells = 32

-- so many cells of an array of 64, from its head on
pub record IsPiece (cells : List Queued) (head len : ℕ) : Type 0 where
  pub inside : head + len ≤ most_cells
  pub each : length cells ≡ most_cells

-- the cells, block after block
abbrev pub flattened : List (List Queued) → List Queued
flattened [] = []
flattened (block ∷ blocks) = block ++ flattened blocks

-- the cells of each block in the order of the blocks, and how many blocks there can be
pub record BlocksView : Type 0 where
  pub blocks : List (List Queued)
  pub most : ℕ

-- the block at a place in the order
abbrev pub block_at : List (List Queued) → ℕ → List Queued
block_at blocks place = slice_index_or blocks place []

-- how many cells there are in all
abbrev pub cells_in_all : List (List Queued) → ℕ
cells_in_all blocks = sum_by (λ block. length block) blocks

-- with the full block at this place split in two halves
abbrev pub halved : List (List Queued) → ℕ → List (List Queued)
halved blocks place =
    insert (slice_set blocks place (take half_cells (block_at blocks place))) (place + 1)
    (drop half_cells (block_at blocks place))

-- without the first cell, and without its block where this was the only cell of it
abbrev pub without_first : List (List Queued) → List (List Queued)
without_first [] = []
without_first (block ∷ blocks) = if length block == 1 then blocks else drop 1 block ∷ blocks

-- ## Which block stands where

-- the blocks of a pool whose numbers these are
abbrev pub in_order : List (List Queued) → List ℕ → List (List Queued)
in_order pool order = map (λ number. block_at pool number) order

-- 1 where it is so
abbrev pub bit : Bool → ℕ
bit true = 1
bit false = 0

-- how often a number stands in a list
abbrev pub times : ℕ → List ℕ → ℕ
times n numbers = sum_by (λ other. bit (other == n)) numbers

-- one where the pool has a block of this number, and else zero
abbrev pub has : List (List Queued) → ℕ → ℕ
has pool n = bit (nat_lt n (length pool))

-- how many cells each block behind the first one has
abbrev pub counts_behind : List (List Queued) → List ℕ
counts_behind blocks = map (λ block. length block) (drop 1 blocks)

-- each block of the pool stands once, in the order or among the free ones, the first number is that of the order, and
-- the counts say how many cells the blocks behind the first one have
pub record ArePlaced (pool : List (List Queued)) (first : ℕ) (order counts free : List ℕ) : Type 0 where
  pub led : first ≡ slice_index_or order 0 first
  pub once : (n : ℕ) → times n order + times n free ≡ has pool n
  pub all : length order + length free ≡ length pool
  pub counted : counts ≡ counts_behind (in_order pool order)

-- there is memory for all of the blocks that there can be, and for as many numbers and counts
pub record HaveMemory (most pool in_pool in_order in_counts in_free : ℕ) : Type 0 where
  pub few : pool ≤ most
  pub blocks : most ≤ in_pool
  pub ordered : most ≤ in_order
  pub counted : most ≤ in_counts
  pub freed : most ≤ in_free

-- a block came in under this number, which was free or is new
pub record ComesIn (pool : List (List Queued)) (free : List ℕ) (pool' : List (List Queued)) (free' : List ℕ)
    (block : List Queued) (number : ℕ) : Type 0 where
  pub inside : number < length pool'
  pub at : block_at pool' number ≡ block
  pub others : (n : ℕ) → n ≢ number → block_at pool' n ≡ block_at pool n
  pub once : (n : ℕ) → times n free' + bit (number == n) + has pool n ≡ times n free + has pool' n
  pub all : length free' + 1 + length pool ≡ length free + length pool'
  pub fewer : length free' ≤ length free
  pub grown : length pool < length pool' → length free ≡ 0

-- the second half of one block of a pool stands in the place of another one, and all other blocks stay
pub record IsParted (pool pool' : List (List Queued)) (from to : ℕ) : Type 0 where
  pub long : length pool' ≡ length pool
  pub left : block_at pool' from ≡ take half_cells (block_at pool from)
  pub half : block_at pool' to ≡ drop half_cells (block_at pool from)
  pub others : (n : ℕ) → n ≢ from → n ≢ to → block_at pool' n ≡ block_at pool n
