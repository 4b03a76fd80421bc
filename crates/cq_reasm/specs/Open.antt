-- A packet of which cells were taken, and not yet the last.
use Rattle.std.specs.Prelude.{ℕ, ◌+◌, List, [], ◌++◌, Option, None, Some}

-- its number in the capture of its input, how many of its cells were taken, and their bytes in order
pub record Open : Type 0 where
  pub packet : ℕ
  pub taken : ℕ
  pub body : List ℕ

-- how many cells were taken of the packet that is open, if one is
abbrev pub cells_taken : Option Open → ℕ
cells_taken None = 0
cells_taken (Some p) = p.taken

-- their bytes
abbrev pub bytes_taken : Option Open → List ℕ
bytes_taken None = []
bytes_taken (Some p) = p.body

-- the packet, after one more of its cells was taken
abbrev pub grown : List ℕ → Open → Open
grown piece p = record { packet = p.packet; taken = p.taken + 1; body = p.body ++ piece }

-- what is open after one more cell was taken: of the packet that is open, or the first of the packet with this number
abbrev pub with_piece : Option Open → ℕ → List ℕ → Open
with_piece None packet piece = record { packet = packet; taken = 1; body = piece }
with_piece (Some p) packet piece = grown piece p
