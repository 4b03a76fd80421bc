-- Which of a slot's arrivals are taken in where outputs have limits, and which are refused. A packet is refused
-- whole, by what its output holds as its first cell arrives: a mark at its input then stays up to its last cell.
-- Admission stands ahead of the ranking: a refused cell gets no rank.
use Rattle.std.specs.Prelude.{◌≡◌, ℕ, ◌+◌, ◌==◌, nat_le, Bool, true, false, if◌then◌else◌, List, [], ◌∷◌, map, replicate, Option, Some, None, slice_set, slice_index_or}
use Rattle.cq_base.specs.declared.cell.Cell.{Cell}
use Rattle.cq_base.specs.Arrivals.{arrival_at}

-- whether an output with this limit, or with none, is full when it holds so many cells
abbrev pub is_full : Option ℕ → ℕ → Bool
is_full None held = false
is_full (Some limit) held = nat_le limit held

-- whether it is the first cell of its packet
abbrev pub is_first : Cell → Bool
is_first cell = cell.id.index == 0

-- whether output j is full, by its limit and by how many cells it holds
abbrev pub is_full_at : List (Option ℕ) → List ℕ → ℕ → Bool
is_full_at limits held j = is_full (slice_index_or limits j None) (slice_index_or held j 0)

-- The mark of an input after its arrival of the slot. The first cell of a packet puts it up where the cell's output
-- is full, and down where it is not; nothing else moves it.
abbrev pub mark_after : List (Option ℕ) → List ℕ → Bool → Option Cell → Bool
mark_after limits held mark None = mark
mark_after limits held mark (Some cell) = if is_first cell then is_full_at limits held cell.output else mark

-- how many cells each output holds after this arrival, which the mark refuses where it is up
abbrev pub held_after : Bool → List ℕ → Option Cell → List ℕ
held_after true held cell = held
held_after false held None = held
held_after false held (Some cell) = slice_set held cell.output (slice_index_or held cell.output 0 + 1)

-- The marks after a slot, whose arrivals are judged in order of input: what an output holds takes in the cells that
-- were admitted for it ahead of this one.
abbrev pub marks_after : List (Option ℕ) → List ℕ → List Bool → List (Option Cell) → List Bool
marks_after limits held [] cells = []
marks_after limits held (mark ∷ marks) [] = mark ∷ marks
marks_after limits held (mark ∷ marks) (cell ∷ cells) =
    let up = mark_after limits held mark cell in up ∷ marks_after limits (held_after up held cell) marks cells

-- the arrivals at the inputs whose mark is down
abbrev pub admitted : List Bool → List (Option Cell) → List (Option Cell)
admitted [] cells = cells
admitted (mark ∷ marks) [] = []
admitted (true ∷ marks) (cell ∷ cells) = None ∷ admitted marks cells
admitted (false ∷ marks) (cell ∷ cells) = cell ∷ admitted marks cells

-- the cells that arrive at the inputs whose mark is up, in order of input
abbrev pub refused : List Bool → List (Option Cell) → List Cell
refused [] cells = []
refused (mark ∷ marks) [] = []
refused (true ∷ marks) (None ∷ cells) = refused marks cells
refused (true ∷ marks) (Some cell ∷ cells) = cell ∷ refused marks cells
refused (false ∷ marks) (cell ∷ cells) = refused marks cells

-- what becomes of a slot's arrivals: by input the admitted ones, the refused cells, and the marks after it
pub record Admission : Type 0 where
  pub cells : List (Option Cell)
  pub refused : List Cell
  pub marks : List Bool

-- the arrivals of a slot are judged by the limits of the outputs, by how many cells each of them holds, and by the
-- marks
unfoldable pub admission : List (Option ℕ) → List ℕ → List Bool → List (Option Cell) → Admission
admission limits held marks cells =
    let after = marks_after limits held marks cells in
    record { cells = admitted after cells; refused = refused after cells; marks = after }

-- what is admitted in each slot of a run
abbrev pub admitted_in : List Admission → List (List (Option Cell))
admitted_in admissions = map (λ a. a.cells) admissions

-- ## What holds of an input

-- the mark of an input: down where there is none
abbrev pub mark_at : List Bool → ℕ → Bool
mark_at marks i = slice_index_or marks i false

-- an arrival, unless this mark refuses it
abbrev pub unless : Bool → Option Cell → Option Cell
unless true cell = None
unless false cell = cell

-- ## Switches with limits

-- a switch in this state, and per input its mark
pub record Marked (S : Type 0) : Type 0 where
  pub state : S
  pub marks : List Bool

-- no output has a limit
abbrev pub NoLimits : List (Option ℕ) → Type 0
NoLimits limits = (j : ℕ) → slice_index_or limits j None ≡ None

-- all marks are down, at so many inputs
abbrev pub marks_down : ℕ → List Bool
marks_down ports = replicate ports false

-- a switch in this state, with these marks
abbrev pub marked : {S : Type 0} → List Bool → S → Marked S
marked marks state = record { state = state; marks = marks }

-- a switch in this state, with all marks down
abbrev pub unmarked : {S : Type 0} → ℕ → S → Marked S
unmarked ports state = marked (marks_down ports) state

-- all arrivals are admitted, and no mark moves
abbrev pub nothing_refused : List Bool → List (Option Cell) → Admission
nothing_refused marks cells = record { cells = cells; refused = []; marks = marks }

-- that is what becomes of these arrivals, however many cells the outputs hold
abbrev pub RefusesNone : List (Option ℕ) → List Bool → List (Option Cell) → Type 0
RefusesNone limits marks cells = (held : List ℕ) → admission limits held marks cells ≡ nothing_refused marks cells

-- ## What holds of every slot

-- the mark of an input after the slot says what became of its arrival
abbrev pub MarksDecide : Type 0
MarksDecide =
    (limits : List (Option ℕ)) (held : List ℕ) (marks : List Bool) (cells : List (Option Cell)) (i : ℕ) →
    let a = admission limits held marks cells in
    arrival_at a.cells i ≡ unless (mark_at a.marks i) (arrival_at cells i)
