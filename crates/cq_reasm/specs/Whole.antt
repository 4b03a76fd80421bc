-- Runs of whole packets of one input and one class, and what is given as their cells are taken.
use Rattle.std.specs.Prelude.{◌≡◌, ℕ, ◌+◌, true, false, List, [], ◌∷◌, length, map, Option, None, Some}
use Rattle.std.specs.List.{flat_map, AllByRecursion}
use Rattle.cq_reasm.specs.declared.joiner.Joined.{Joined}
use Rattle.cq_reasm.specs.Open.{Open}
use Rattle.cq_reasm.specs.Piece.{Piece}
use Rattle.cq_reasm.specs.Cutting.{joined_pieces}
use Rattle.cq_reasm.specs.Joining.{IsNext, joined_at, open_after}

-- a packet, by its number, with its cells in order
pub record Packet : Type 0 where
  pub number : ℕ
  pub pieces : List Piece

-- the cell is this one of the packet of the input and the class
pub record IsCellOf (input class packet index : ℕ) (piece : Piece) : Type 0 where
  pub of_input : piece.cell.id.input ≡ input
  pub of_packet : piece.cell.id.packet ≡ packet
  pub at_index : piece.cell.id.index ≡ index
  pub of_class : piece.cell.class ≡ class
  pub bytes_fit : length piece.bytes ≡ piece.cell.len

-- the cells of a packet from one on: in order of number, and the last, and no other, is marked so
abbrev pub AreCellsFrom : ℕ → ℕ → ℕ → ℕ → List Piece → Type 0
AreCellsFrom input class packet index [] = ⊥
AreCellsFrom input class packet index (x ∷ []) = IsCellOf input class packet index x × (x.cell.last ≡ true)
AreCellsFrom input class packet index (x ∷ y ∷ rest) =
    IsCellOf input class packet index x × (x.cell.last ≡ false)
    × AreCellsFrom input class packet (index + 1) (y ∷ rest)

-- a run of whole packets of the input and the class
abbrev pub AreWhole : ℕ → ℕ → List Packet → Type 0
AreWhole input class packets = AllByRecursion (λ p. AreCellsFrom input class p.number 0 p.pieces) packets

-- its cells, in order
abbrev pub cells_in : List Packet → List Piece
cells_in packets = flat_map (λ p. p.pieces) packets

-- a packet with the pieces of its cells in order
abbrev pub whole : ℕ → Packet → Joined
whole input p = record { input = input; packet = p.number; body = joined_pieces p.pieces }

-- each cell is the next when it is taken
abbrev pub AreNext : Option Open → List Piece → Type 0
AreNext was [] = Unit {0}
AreNext was (x ∷ rest) = IsNext was x.cell × AreNext (open_after was x.cell x.bytes) rest

-- what is given at each cell, where anything is
abbrev pub given_or : Option Joined → List Joined → List Joined
given_or None later = later
given_or (Some joined) later = joined ∷ later

-- all that is given while these cells are taken
abbrev pub given : Option Open → List Piece → List Joined
given was [] = []
given was (x ∷ rest) = given_or (joined_at was x.cell x.bytes) (given (open_after was x.cell x.bytes) rest)

-- what is open after all were taken
abbrev pub open_after_all : Option Open → List Piece → Option Open
open_after_all was [] = was
open_after_all was (x ∷ rest) = open_after_all (open_after was x.cell x.bytes) rest

-- the cells of whole packets can be taken one after another, each packet is given whole, in order, and none is left
-- open
pub record TakesWhole (input : ℕ) (packets : List Packet) : Type 0 where
  pub next : AreNext None (cells_in packets)
  pub gives : given None (cells_in packets) ≡ map (whole input) packets
  pub closes : open_after_all None (cells_in packets) ≡ None

-- so it is of every run of whole packets
abbrev pub WholeAreTaken : Type 0
WholeAreTaken = (input class : ℕ) (packets : List Packet) → AreWhole input class packets → TakesWhole input packets
