-- What a joiner holds, what it answers at a cell, and what is open afterwards.
use Rattle.std.specs.Prelude.{◌≡◌, ◌≢◌, ◌⊎◌, ℕ, ◌+◌, ◌*◌, ◌<◌, List, ◌++◌, length, Option, None, Some, Result, IfOk, OnErr, OnOk, if◌then◌else◌, slice_index_or, slice_set, replicate}
use Rattle.cq_base.specs.declared.cell.Cell.{Cell}
use Rattle.cq_reasm.specs.declared.joiner.Joined.{Joined}
use Rattle.cq_reasm.specs.Open.{Open, bytes_taken, with_piece}

-- how many inputs and classes there are, and the open packet of each pair, by input and then by class
pub record JoinerView : Type 0 where
  pub inputs : ℕ
  pub classes : ℕ
  pub open_packets : List (Option Open)

-- the place of a pair
abbrev pub place_of : JoinerView → ℕ → ℕ → ℕ
place_of joiner input class = input * joiner.classes + class

-- the open packet of an input and a class, if one is
abbrev pub open_at : JoinerView → ℕ → ℕ → Option Open
open_at joiner input class = slice_index_or joiner.open_packets (place_of joiner input class) None

-- the same, but that this is open of the pair
abbrev pub with_open : JoinerView → ℕ → ℕ → Option Open → JoinerView
with_open joiner input class now =
    record joiner { open_packets = slice_set joiner.open_packets (place_of joiner input class) now }

-- no packet is open
abbrev pub nothing_open : ℕ → ℕ → JoinerView
nothing_open inputs classes =
    record { inputs = inputs; classes = classes; open_packets = replicate (inputs * classes) None }

-- the cell is the next of its pair: of the open packet as many cells were taken as stand before it, or none is open
-- and it is the first of its packet
abbrev pub IsNext : Option Open → Cell → Type 0
IsNext None cell = cell.id.index ≡ 0
IsNext (Some p) cell = (p.packet ≡ cell.id.packet) × (p.taken ≡ cell.id.index)

-- the cell is of another input or of another class
abbrev pub IsOtherPair : ℕ → ℕ → Cell → Type 0
IsOtherPair input class cell = (input ≢ cell.id.input) ⊎ (class ≢ cell.class)

-- the packet that is whole with this cell: the pieces of its cells, in order
abbrev pub joined_at : Option Open → Cell → List ℕ → Option Joined
joined_at was cell piece =
    if cell.last then Some
    (record { input = cell.id.input; packet = cell.id.packet; body = bytes_taken was ++ piece }) else None

-- what is open of the pair afterwards
abbrev pub open_after : Option Open → Cell → List ℕ → Option Open
open_after was cell piece = if cell.last then None else Some (with_piece was cell.id.packet piece)

-- the cell, with these bytes, is the next of its input and class
pub record IsTakable (joiner : JoinerView) (cell : Cell) (bytes : List ℕ) : Type 0 where
  pub input : cell.id.input < joiner.inputs
  pub class : cell.class < joiner.classes
  pub piece : length bytes ≡ cell.len
  pub next : IsNext (open_at joiner cell.id.input cell.class) cell

-- What is answered at a cell with these bytes, and what stands then: the packet, if it is whole, and what is open of
-- the pair. The packets of all other pairs are as before, and after an error all is.
pub record HasTaken {E : Type 0} (old new : JoinerView) (cell : Cell) (bytes : List ℕ)
    (result : Result (Option Joined) E) : Type 0 where
  pub joined : IfOk result (λ joined. joined ≡ joined_at (open_at old cell.id.input cell.class) cell bytes)
  pub left : OnOk result (new ≡ with_open old cell.id.input cell.class
      (open_after (open_at old cell.id.input cell.class) cell bytes))
  pub pair : OnOk result (open_at new cell.id.input cell.class
      ≡ open_after (open_at old cell.id.input cell.class) cell bytes)
  pub others : (input class : ℕ) → class < old.classes → IsOtherPair input class cell →
      open_at new input class ≡ open_at old input class
  pub as_before : OnErr result (new ≡ old)
