-- The texts of a run: the trace of its departures and the log of its transfers.
use Rattle.std.specs.Prelude.{ℕ, List, [], ◌∷◌, ◌++◌, map}
use Rattle.std.specs.List.{flat_map}
use Rattle.cq_base.specs.Decimal.{decimal}
use Rattle.cq_base.specs.declared.cell.Departure.{Departure}
use Rattle.cq_base.specs.declared.cell.Transfer.{Transfer}

-- a line: words, parted by one blank, and a line feed behind them
abbrev pub line_of_words : List (List ℕ) → List ℕ
line_of_words [] = 10 ∷ []
line_of_words (word ∷ []) = word ++ 10 ∷ []
line_of_words (word ∷ next ∷ words) = word ++ 32 ∷ line_of_words (next ∷ words)

-- a line of numbers, in decimal digits
abbrev pub line_of : List ℕ → List ℕ
line_of ns = line_of_words (map decimal ns)

-- a departure: its slot, its output, and the cell that left, by its input, its packet and its number there
abbrev pub trace_line : Departure → List ℕ
trace_line d =
    line_of (d.slot ∷ d.output ∷ d.queued.cell.id.input ∷ d.queued.cell.id.packet ∷ d.queued.cell.id.index ∷ [])

-- one line a departure
unfoldable pub trace_of : List Departure → List ℕ
trace_of sent = flat_map trace_line sent

-- a transfer: its slot, its phase, its input, its output, and the cell that crossed, by its packet and its number there
abbrev pub log_line : Transfer → List ℕ
log_line t = line_of (t.slot ∷ t.phase ∷ t.input ∷ t.output ∷ t.id.packet ∷ t.id.index ∷ [])

-- one line a transfer
unfoldable pub log_of : List Transfer → List ℕ
log_of note = flat_map log_line note
