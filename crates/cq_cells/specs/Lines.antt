-- Only proofs use this.
-- What a schedule keeps of the packets: one row for each, line by line.
use Rattle.std.specs.Prelude.{ℕ, ◌≡◌, ◌+◌, ◌-◌, ◌*◌, ◌^◌, ◌<◌, ◌≤◌, ◌==◌, min, List, [], ◌∷◌, length, map, flat_map, slice_index_or}
use Rattle.std.specs.List.{range_with_len, AllByRecursion}
use Rattle.cq_base.specs.Arriving.{Arrival, end_of}
use Rattle.cq_base.specs.Limits.{most_ports}
use Rattle.cq_base.specs.declared.cell.Cell.{Cell}
use Rattle.cq_cells.specs.declared.line.Row.{Row}
use Rattle.cq_base.specs.Pieces.{cells_of}
use Rattle.cq_cells.specs.Traffic.{number_of, is_to}

-- cell i of packet k, by its row
abbrev pub row_cell : ℕ → ℕ → ℕ → Row → ℕ → Cell
row_cell input cell_bytes k row i = record {
  id = record { input = input; packet = k; index = i };
  output = row.output;
  class = row.class;
  last = i + 1 == row.cells;
  at = i * cell_bytes;
  len = min cell_bytes (row.len - i * cell_bytes);
}

-- the arrivals of packet k, by its row
abbrev pub row_arrivals : ℕ → ℕ → ℕ → Row → List Arrival
row_arrivals input cell_bytes k row =
    map (λ i. record { slot = row.start + i; cell = row_cell input cell_bytes k row i }) (range_with_len 0 row.cells)

-- row k, or one without cells where there is none
abbrev pub row_at : List Row → ℕ → Row
row_at rows k = slice_index_or rows k (record { start = 0; cells = 0; output = 0; class = 0; len = 0 })

-- the arrivals of a line
unfoldable pub line_arrivals : ℕ → ℕ → List Row → List Arrival
line_arrivals input cell_bytes rows =
    flat_map (λ k. row_arrivals input cell_bytes k (row_at rows k)) (range_with_len 0 (length rows))

-- rows that can be looked up: their packets are cut by the rule, and each begins where the one before it has ended,
-- or later
pub record AreRows (cell_bytes : ℕ) (rows : List Row) : Type 0 where
  pub some : 1 ≤ cell_bytes
  pub few : length rows < 2 ^ 32
  pub small : (k : ℕ) → k < length rows → (row_at rows k).cells < 2 ^ 32
  pub cut : (k : ℕ) → k < length rows → (row_at rows k).cells ≡ cells_of (row_at rows k).len cell_bytes
  pub apart : (j k : ℕ) → j < k → k < length rows →
      (row_at rows j).start + (row_at rows j).cells ≤ (row_at rows k).start

-- the packets below place n have begun in the slot, and no other has
pub record IsBegun (rows : List Row) (slot n : ℕ) : Type 0 where
  pub before : (k : ℕ) → k < n → (row_at rows k).start ≤ slot
  pub after : (k : ℕ) → n ≤ k → k < length rows → slot < (row_at rows k).start

-- the packets below place n have arrived before the slot, and no other has arrived whole
pub record IsEnded (rows : List Row) (slot n : ℕ) : Type 0 where
  pub before : (k : ℕ) → k < n → (row_at rows k).start + (row_at rows k).cells ≤ slot
  pub after : (k : ℕ) → n ≤ k → k < length rows → slot < (row_at rows k).start + (row_at rows k).cells

-- the arrivals of the lines, one line after another
abbrev pub all_of : List (List Arrival) → List Arrival
all_of lines = flat_map (λ line. line) lines

-- the cells of each line arrive at its own input; the first line is this one's
abbrev pub AreOwn : ℕ → List (List Arrival) → Type 0
AreOwn input [] = Unit {0}
AreOwn input (line ∷ lines) = AllByRecursion (λ a. a.cell.id.input ≡ input) line × AreOwn (input + 1) lines

-- lines with their counts, of all cells and of those for each output, and with their end
pub record AreCounted (lines : List (List Arrival)) (total end : ℕ) (to_output : List ℕ) : Type 0 where
  pub few : length lines ≤ most_ports
  pub own : AreOwn 0 lines
  pub all : total ≡ length (all_of lines)
  pub small : total ≤ 2 ^ 34
  pub ended : end ≡ end_of (all_of lines)
  pub outputs : length to_output ≡ length lines
  pub each : (j : ℕ) → j < length lines → slice_index_or to_output j 0 ≡ number_of (is_to j) (all_of lines)

-- the counts of the cells for each output, after those of these arrivals were added
abbrev pub AreAdded : List Arrival → List ℕ → List ℕ → Type 0
AreAdded came old new =
    (j : ℕ) → j < length old → slice_index_or new j 0 ≡ slice_index_or old j 0 + number_of (is_to j) came
