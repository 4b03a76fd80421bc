-- What clauses see of the buffer of cells at one output, and how its blocks are kept.
use Rattle.std.specs.Prelude.{◌≡◌, ℕ, ◌+◌, ◌<◌, ◌≤◌, ◌/◌, Bool, true, false, List, [], ◌∷◌, length, map, take}
use Rattle.std.specs.List.{AllByRecursion}
use Rattle.cq_base.specs.declared.key.Key.{Key}
use Rattle.cq_base.specs.declared.cell.Queued.{Queued}
use Rattle.cq_base.specs.Key.{is_before}
use Rattle.cq_base.specs.Cells.{IsRising}
use Rattle.cq_urgency.specs.Blocks.{flattened, block_at, cells_in_all, half_cells}

-- the cells in the order of their keys, and how many more there is room for
pub record Buffered : Type 0 where
  pub cells : List Queued
  pub spare : ℕ

-- the cells in each of some buffers
abbrev pub cells_in : List Buffered → List (List Queued)
cells_in buffers = map (λ buffer. buffer.cells) buffers

-- no block is empty, and each but the first has 32 cells at least
abbrev pub AreFilled : List (List Queued) → Type 0
AreFilled [] = Unit {0}
AreFilled (block ∷ blocks) = (0 < length block) × AllByRecursion (λ other. half_cells ≤ length other) blocks

-- what holds of the blocks of each buffer: the cells rise in their keys, and there can be as many blocks as ever are
-- needed
pub record IsBuffer (blocks : List (List Queued)) (most len room : ℕ) : Type 0 where
  pub rising : IsRising (flattened blocks)
  pub filled : AreFilled blocks
  pub counted : len ≡ length (flattened blocks)
  pub fits : len ≤ room
  pub enough : most ≡ room / half_cells + 1

-- whether a block begins with a lesser key
abbrev pub starts_before : Key → List Queued → Bool
starts_before key [] = false
starts_before key (x ∷ xs) = is_before x.key key

-- the blocks ahead of this place begin with lesser keys, as the last of them shows, and those from there on do not
pub record AreBegun (key : Key) (blocks : List (List Queued)) (place : ℕ) : Type 0 where
  pub inside : place ≤ length blocks
  pub before : (last : ℕ) → last + 1 ≡ place → starts_before key (block_at blocks last) ≡ true
  pub behind : place < length blocks → starts_before key (block_at blocks place) ≡ false

-- a place in a block that has so many cells ahead
pub record IsSpot (blocks : List (List Queued)) (ahead block within : ℕ) : Type 0 where
  pub inside : block < length blocks
  pub short : within ≤ length (block_at blocks block)
  pub at : cells_in_all (take block blocks) + within ≡ ahead
