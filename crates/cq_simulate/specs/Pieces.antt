-- Only proofs use this.
-- The pieces of the cells of captured packets, and how they fit what is open of a packet, one after another.
use Rattle.std.specs.Prelude.{ℕ, ◌≡◌, ◌+◌, ◌<◌, ◌≤◌, true, if◌then◌else◌, List, [], ◌∷◌, ◌++◌, length, take, drop, Option, None, Some, IfSome, ⊤}
use Rattle.cq_base.specs.declared.cell.Cell.{Cell}
use Rattle.cq_cells.specs.Schedule.{packet_at, packets_of}
use Rattle.cq_pcap.specs.Captured.{Captured, longest_body}
use Rattle.cq_reasm.specs.Joining.{IsNext, IsOtherPair, JoinerView, open_after, open_at}
use Rattle.cq_reasm.specs.Open.{Open, bytes_taken}
use Rattle.cq_base.specs.declared.cell.Departure.{Departure}
use Rattle.cq_pcap.specs.Written.{record_of, written}
use Rattle.cq_pcap.specs.declared.write.OutPacket.{OutPacket}
use Rattle.cq_route.specs.declared.tables.Tables.{Tables}
use Rattle.cq_simulate.specs.Packets.{leaving}
use Rattle.cq_simulate.specs.declared.packing.Packing.{Packing}

-- the bytes of a cell's piece
abbrev pub piece_at : List (List Captured) → Cell → List ℕ
piece_at captures cell = take cell.len (drop cell.at (packet_at captures cell.id.input cell.id.packet).body)

-- the cell is of a packet of its input's capture, and its piece lies in that packet's bytes
pub record IsCaptured (captures : List (List Captured)) (cell : Cell) : Type 0 where
  pub input : cell.id.input < length captures
  pub packet : cell.id.packet < length (packets_of captures cell.id.input)
  pub piece : cell.at + cell.len ≤ length (packet_at captures cell.id.input cell.id.packet).body

-- the cell is the next, none is open if it is the first, and if it is the last all pieces of its packet are together
-- with it
pub record Fits (captures : List (List Captured)) (was : Option Open) (cell : Cell) : Type 0 where
  pub next : IsNext was cell
  pub first : cell.id.index ≡ 0 → was ≡ None
  pub whole : cell.last ≡ true →
      bytes_taken was ++ piece_at captures cell ≡ (packet_at captures cell.id.input cell.id.packet).body

-- each of these cells fits what those before it leave open, where this was open before
abbrev pub AllFit : List (List Captured) → Option Open → List Cell → Type 0
AllFit captures was [] = ⊤
AllFit captures was (cell ∷ cells) =
    Fits captures was cell × AllFit captures (open_after was cell (piece_at captures cell)) cells

-- what leaves with the cell that departs: its packet, if it is the last
abbrev pub left_with : Tables → List (List Captured) → Departure → Option OutPacket
left_with t captures d = if d.queued.cell.last then Some (leaving t captures d) else None

-- the bytes of what leaves, if anything does
abbrev pub records_of : Option OutPacket → List ℕ
records_of None = []
records_of (Some p) = record_of p

-- no packet is open, and none has left
pub record IsEmptied (inputs classes : ℕ) (p : Packing) : Type 0 where
  pub lines : p.joiner.inputs ≡ inputs
  pub kinds : p.joiner.classes ≡ classes
  pub nothing : (i c : ℕ) → open_at p.joiner i c ≡ None
  pub bytes : p.bytes.items ≡ written []

-- the cell that departs is the next of its input and class
pub record CanBeJoined (captures : List (List Captured)) (joiner : JoinerView) (d : Departure) : Type 0 where
  pub input : d.queued.cell.id.input < joiner.inputs
  pub class : d.queued.cell.class < joiner.classes
  pub captured : IsCaptured captures d.queued.cell
  pub fits : Fits captures (open_at joiner d.queued.cell.id.input d.queued.cell.class) d.queued.cell

-- it was joined to what is open of its input and class, and what is open of others is as before
pub record JoinsOn (captures : List (List Captured)) (d : Departure) (old new : JoinerView) : Type 0 where
  pub inputs : new.inputs ≡ old.inputs
  pub classes : new.classes ≡ old.classes
  pub pair : open_at new d.queued.cell.id.input d.queued.cell.class
      ≡ open_after (open_at old d.queued.cell.id.input d.queued.cell.class) d.queued.cell
      (piece_at captures d.queued.cell)
  pub others : (i c : ℕ) → c < old.classes → IsOtherPair i c d.queued.cell → open_at new i c ≡ open_at old i c

-- it was taken: it was joined, and its packet has left, if it was the last
pub record Took (t : Tables) (captures : List (List Captured)) (d : Departure) (old new : Packing) : Type 0 where
  pub joined : JoinsOn captures d old.joiner new.joiner
  pub bytes : new.bytes.items ≡ old.bytes.items ++ records_of (left_with t captures d)
  pub small : IfSome (left_with t captures d) (λ p. length p.body ≤ longest_body)
