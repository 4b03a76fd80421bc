-- Only proofs use this.
-- The worked transfer over three ports, in which input 0 is matched with output 1, and input 2 with output 0.
use Rattle.std.specs.Prelude.{◌≡◌, ◌<◌, List, [], ◌∷◌, length}
use Rattle.cq_list.specs.InputList.{Waiting, cells_of}
use Rattle.cq_urgency.specs.OutputBuffer.{Buffered, cells_in}
use Rattle.cq_prefs.specs.FirstCells.{HasCellFor, list_of}
use Rattle.cq_xbar.specs.Crossbar.{buffer_spare}

-- both inputs have a cell for their partner
pub record HaveToCross (ls : List Waiting) : Type 0 where
  pub lists : length ls ≡ 3
  pub first : HasCellFor (list_of (cells_of ls) 0) 1
  pub last : HasCellFor (list_of (cells_of ls) 2) 0

-- the outputs have no cell, and both partners have room for one
pub record HaveRoomToCross (bs : List Buffered) : Type 0 where
  pub empty : cells_in bs ≡ [] ∷ [] ∷ [] ∷ []
  pub buffers : length bs ≡ 3
  pub room_zero : 0 < buffer_spare bs 0
  pub room_one : 0 < buffer_spare bs 1
