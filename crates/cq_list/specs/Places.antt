-- The places of a list, in blocks, and what clauses see of them.
use Rattle.std.specs.Prelude.{◌≡◌, ℕ, ◌+◌, ◌*◌, ◌^◌, ◌<◌, ◌≤◌, List, [], ◌∷◌, ◌++◌, length, take, drop, insert, remove, slice_set, slice_index_or}
use Rattle.std.specs.List.{concat}
use Rattle.cq_base.specs.Limits.{most_ports}
use Rattle.cq_list.specs.Split.{count_of}
use Rattle.cq_list.specs.Sums.{BlocksView}

-- the least places of a block that is not the last
abbrev pub least_places : ℕ
least_places = 16

-- the output of each place in order, and how many more places there is room for
pub record PlacesView : Type 0 where
  pub outputs : List ℕ
  pub spare : ℕ

-- each block but the last has at least 16 places
abbrev pub AreFilled : List (List ℕ) → Type 0
AreFilled [] = Unit {0}
AreFilled (block ∷ []) = Unit {0}
AreFilled (block ∷ next ∷ blocks) = (least_places ≤ length block) × AreFilled (next ∷ blocks)

-- there is memory for the blocks of so many places and for one block more, each block but the last with 16 places
abbrev pub HaveMemory : ℕ → ℕ → Type 0
HaveMemory places capacity = places + least_places < least_places * capacity

-- the blocks are filled, their places are counted and no more than there is room for, and there is memory for this room
pub record AreBlocks (blocks : List (List ℕ)) (len room capacity : ℕ) : Type 0 where
  pub filled : AreFilled blocks
  pub counted : len ≡ length (concat blocks)
  pub fits : len ≤ room
  pub memory : HaveMemory room capacity

-- an output can go into these blocks: they are filled, and there is memory for a block more
pub record CanGrow (v : BlocksView) (output : ℕ) : Type 0 where
  pub filled : AreFilled v.blocks
  pub memory : HaveMemory (length (concat v.blocks)) v.capacity
  pub in_range : output < most_ports
  pub fits : length (concat v.blocks) + 1 < 2 ^ 64

-- an output went in at this place, the blocks are filled still, and they have no less memory
pub record HasGrown (place output : ℕ) (old new : BlocksView) : Type 0 where
  pub places : concat new.blocks ≡ insert (concat old.blocks) place output
  pub filled : AreFilled new.blocks
  pub capacity : old.capacity ≤ new.capacity

-- the blocks, where block i has the places of the next one too
abbrev pub joined : List (List ℕ) → ℕ → List (List ℕ)
joined blocks i =
    slice_set (remove blocks (i + 1)) i (slice_index_or blocks i [] ++ slice_index_or blocks (i + 1) [])

-- the blocks, where the first place of the block behind block i has gone over to it
abbrev pub pulled : List (List ℕ) → ℕ → List (List ℕ)
pulled blocks i =
    slice_set (slice_set blocks (i + 1) (drop 1 (slice_index_or blocks (i + 1) []))) i
    (slice_index_or blocks i [] ++ take 1 (slice_index_or blocks (i + 1) []))

-- the first block and the others hold the same places, and are filled still: the first has no fewer, and more than the
-- least where there are others
pub record IsFilledUp (first : List ℕ) (others : List (List ℕ)) (new : List ℕ) (left : List (List ℕ)) : Type 0 where
  pub places : new ++ concat left ≡ first ++ concat others
  pub filled : AreFilled (new ∷ left)
  pub longer : 0 < length left → least_places < length new
  pub kept : length first ≤ length new

-- the block of a place, and where it stands in this block
pub record IsSpot (blocks : List (List ℕ)) (place block within : ℕ) : Type 0 where
  pub inside : block < length blocks
  pub short : within < length (slice_index_or blocks block [])
  pub at : length (concat (take block blocks)) + within ≡ place

-- how many places stand ahead of a block, and how many of these are output j's
pub record IsAhead (blocks : List (List ℕ)) (j block places own : ℕ) : Type 0 where
  pub all : places ≡ length (concat (take block blocks))
  pub few : own ≡ count_of j (concat (take block blocks))
