-- What the transfer of a matching asks for, and what it does to the room of lists and buffers.
use Rattle.std.specs.Prelude.{◌≡◌, ℕ, ◌+◌, ◌-◌, ◌<◌, ◌⊎◌, ◌++◌, if◌then◌else◌, List, [], length, map, Option, None, Some, is_some, nat_eq, slice_index_or}
use Rattle.std.specs.List.{IsDistinct}
use Rattle.cq_base.specs.declared.cell.Queued.{Queued}
use Rattle.cq_base.specs.declared.cell.Transfer.{Transfer}
use Rattle.cq_base.specs.Cells.{HasOtherKey, first_for, put, without_first}
use Rattle.cq_base.specs.Room.{RoomView}
use Rattle.cq_list.specs.InputList.{Waiting, cells_of}
use Rattle.cq_urgency.specs.OutputBuffer.{Buffered, cells_in}
use Rattle.cq_prefs.specs.FirstCells.{list_of, HasCellFor}
use Rattle.cq_prefs.specs.Moves.{Moves, transfers_of}
use Rattle.cq_prefs.specs.Pairing.{Partners, partner_of, IsFreeOutput}

-- each input that has a partner has a cell for it
abbrev pub HaveCells : Partners → List (List Queued) → Type 0
HaveCells m lists = (i j : ℕ) → partner_of m i ≡ Some j → HasCellFor (list_of lists i) j

-- no cell that crosses has the key of a cell in the buffer that it comes to
abbrev pub KeysAreNew : Partners → List (List Queued) → List (List Queued) → Type 0
KeysAreNew m lists buffers =
    (i j : ℕ) (c : Queued) → partner_of m i ≡ Some j → first_for j (list_of lists i) ≡ Some c →
    HasOtherKey c (list_of buffers j)

-- a list without cells, room or outputs
abbrev pub no_list : Waiting
no_list = record { cells = []; outputs = 0; spare = 0 }

-- a buffer without cells or room
abbrev pub no_buffer : Buffered
no_buffer = record { cells = []; spare = 0 }

-- the list of input i
abbrev pub list_at : List Waiting → ℕ → Waiting
list_at lists i = slice_index_or lists i no_list

-- the buffer of output j
abbrev pub buffer_at : List Buffered → ℕ → Buffered
buffer_at buffers j = slice_index_or buffers j no_buffer

-- a list after its first cell for its partner, if it has one, left it
abbrev pub list_left : Option ℕ → Waiting → Waiting
list_left None w = w
list_left (Some j) w = record { cells = without_first j w.cells; outputs = w.outputs; spare = w.spare + 1 }

-- a buffer after a cell came to it
abbrev pub with_cell : Queued → Buffered → Buffered
with_cell c b = record { cells = put c b.cells; spare = b.spare - 1 }

-- how many more cells the list of input i has room for
abbrev pub list_spare : List Waiting → ℕ → ℕ
list_spare lists i = (list_at lists i).spare

-- how many more cells the buffer of output j has room for
abbrev pub buffer_spare : List Buffered → ℕ → ℕ
buffer_spare buffers j = (buffer_at buffers j).spare

-- the buffer of each output that has a partner has room for a cell
abbrev pub HaveRoom : Partners → List Buffered → Type 0
HaveRoom m buffers = (i j : ℕ) → partner_of m i ≡ Some j → 0 < buffer_spare buffers j

-- each list that a cell leaves gets room for one, each buffer that a cell comes to loses room for one, and no other
-- list or buffer gets or loses any
pub record MovesRoom (m : Partners) (lists : List Waiting) (buffers : List Buffered) (lists' : List Waiting)
    (buffers' : List Buffered) : Type 0 where
  pub gained : (i : ℕ) → list_spare lists' i ≡ list_spare lists i + (if is_some (partner_of m i) then 1 else 0)
  pub lost : (i j : ℕ) → partner_of m i ≡ Some j → buffer_spare buffers' j + 1 ≡ buffer_spare buffers j
  pub kept : (j : ℕ) → IsFreeOutput m j → buffer_spare buffers' j ≡ buffer_spare buffers j

-- the first cells of the pairs went from these lists into these buffers, and were noted
pub record HasTransferred (slot phase : ℕ) (m : Partners) (lists : List Waiting) (buffers : List Buffered)
    (lists' : List Waiting) (buffers' : List Buffered) (before after : RoomView Transfer) : Type 0 where
  pub moves : Moves m (cells_of lists) (cells_in buffers) (cells_of lists') (cells_in buffers')
  pub room : MovesRoom m lists buffers lists' buffers'
  pub outputs : map (λ list. list.outputs) lists' ≡ map (λ list. list.outputs) lists
  pub note : after.items ≡ before.items ++ transfers_of m (cells_of lists) slot phase
  pub note_room : after.spare + length (transfers_of m (cells_of lists) slot phase) ≡ before.spare

-- the second number is the first, or one more
abbrev pub IsSameOrNext : ℕ → ℕ → Type 0
IsSameOrNext n k = (k ≡ n) ⊎ (k ≡ n + 1)

-- at most one cell leaves each list, and at most one comes to each buffer
pub record MovesOneEach (lists buffers lists' buffers' : List (List Queued)) : Type 0 where
  pub leaves : (i : ℕ) → IsSameOrNext (length (list_of lists' i)) (length (list_of lists i))
  pub comes : (j : ℕ) → IsSameOrNext (length (list_of buffers j)) (length (list_of buffers' j))

-- no input is in two of the transfers, and no output
pub record NotesOneEach (note : List Transfer) : Type 0 where
  pub inputs : IsDistinct nat_eq (map (λ t. t.input) note)
  pub outputs : IsDistinct nat_eq (map (λ t. t.output) note)
