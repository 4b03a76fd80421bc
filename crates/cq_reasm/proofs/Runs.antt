-- The pieces of consecutive cells are consecutive stretches of the frame, so the pieces of as many cells as the frame
-- needs are all of it. A last piece that is cut off at the frame's end is the same as one of full length, since
-- nothing follows. And the cells of whole packets are taken one after another. At each cell before the last one the
-- packet stays open, with this cell's piece behind the others, so the next cell is the next of the packet. The last one
-- gives the packet, and closes it, so the first cell of the packet behind it is the next.
use Rattle.cq_reasm.proofs.Terms.{rules, ◌≡◌, ℕ, ◌+◌, List, [], ◌∷◌, ◌++◌, Option, None, Some, refl, arith, append_assoc, common_steps, flat_map, append-nil, Open, bytes_taken, with_piece, Piece, ◌*◌, div_ceil_times, length, take, drop, suc, take_min, take_all, length-drop, drop-drop, take-add}
use Rattle.cq_reasm.specs.declared.joiner.Joined.{Joined}
use Rattle.cq_reasm.specs.Whole.{AreCellsFrom, cells_in, AreNext, given, open_after_all, WholeAreTaken}
unfoldable use Rattle.cq_base.specs.Pieces.{cells_of}
use Rattle.cq_reasm.specs.Cutting.{IsCutFrom, AreCutFrom, joined_pieces, PiecesGiveFrame}

-- a piece is a stretch of full length, or what is left
full_length : (frame : List ℕ) (cell_bytes index : ℕ) (x : Piece) → IsCutFrom frame cell_bytes index x →
    x.bytes ≡ take cell_bytes (drop (index * cell_bytes) frame)
full_length frame cell_bytes index x h = grind (arith, common_steps, length-drop, take_min)

-- the pieces of the cells from one on
stretch : (frame : List ℕ) (cell_bytes first : ℕ) (pieces : List Piece) → AreCutFrom frame cell_bytes first pieces →
    joined_pieces pieces ≡ take (length pieces * cell_bytes) (drop (first * cell_bytes) frame)
stretch frame cell_bytes first [] h = let none : 0 * cell_bytes ≡ 0 = omega arith in grind (arith, common_steps)
stretch frame cell_bytes first (x ∷ pieces) h =
    let next : first * cell_bytes + cell_bytes ≡ (first + 1) * cell_bytes = omega arith in
    let all : cell_bytes + length pieces * cell_bytes ≡ suc (length pieces) * cell_bytes = omega arith in
    grind (arith, common_steps, full_length, drop-drop, take-add, stretch frame cell_bytes (first + 1) pieces h.1)

pub pieces_give_frame : PiecesGiveFrame
unfolding cells_of
pieces_give_frame frame cell_bytes pieces h cut count =
    let room = div_ceil_times (length frame) cell_bytes h in
    grind (arith, common_steps, stretch, take_all)

-- ## The cells of packets

-- so many cells of the packet with this number are taken
abbrev IsOpenAt : Option Open → ℕ → ℕ → Type 0
IsOpenAt None packet index = 0 ≡ index
IsOpenAt (Some p) packet index = (p.packet ≡ packet) × (p.taken ≡ index)

module _ (input class packet : ℕ) where
  -- the cells of a packet from one on, and others behind them
  record Rest (was : Option Open) (xs later : List Piece) : Type 0 where
    next : AreNext None later → AreNext was (xs ++ later)
    gives : given was (xs ++ later)
        ≡ (let all : Joined = record
        { input = input; packet = packet; body = bytes_taken was ++ flat_map (λ x. x.bytes) xs } in
        all) ∷ given None later
    left : open_after_all was (xs ++ later) ≡ open_after_all None later

  rest_of : (was : Option Open) (index : ℕ) (xs later : List Piece) → IsOpenAt was packet index →
      AreCellsFrom input class packet index xs → Rest was xs later
  rest_of was index [] later o h = absurd h
  rest_of was index (x ∷ []) later o h = grind (arith, common_steps, append-nil)
  rest_of was index (x ∷ y ∷ xs) later o h =
      let on : Option Open = Some (with_piece was x.cell.id.packet x.bytes) in
      grind (arith, common_steps, append_assoc, rest_of on (index + 1) (y ∷ xs) later)

pub whole_are_taken : WholeAreTaken
whole_are_taken input class [] h = record { next = tt; gives = refl; closes = refl }
whole_are_taken input class (p ∷ packets) h =
    let r = rest_of input class p.number None 0 p.pieces (cells_in packets) refl h.0 in
    let later = whole_are_taken input class packets h.1 in search (arith, rules, r.next)
