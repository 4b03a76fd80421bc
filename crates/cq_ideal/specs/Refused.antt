-- What is refused, in numbers: packets and cells, for each output that has a limit.
use Rattle.std.specs.Prelude.{◌≡◌, ℕ, ◌+◌, ◌&&◌, ◌==◌, List, length, map, filter, Bool, Option}
use Rattle.std.specs.List.{AllByRecursion, enumerate_from, filter_map, flat_map}
use Rattle.std.specs.Option.{option_map}
use Rattle.cq_base.specs.declared.cell.Cell.{Cell}
use Rattle.cq_ideal.specs.declared.refused.Refused.{Refused}
use Rattle.cq_ideal.specs.Admission.{Admission, admission, is_first}
use Rattle.cq_ideal.specs.Ideal.{count_for}

-- the cells that were refused in these slots, in order of slot, then input
abbrev pub refused_in : List Admission → List Cell
refused_in admissions = flat_map (λ a. a.refused) admissions

-- how many of the refused cells were for output j
unfoldable pub cells_refused : ℕ → List Cell → ℕ
cells_refused j cells = length (filter (λ cell. cell.output == j) cells)

-- how many packets they were of, by their first cells
unfoldable pub packets_refused : ℕ → List Cell → ℕ
packets_refused j cells = length (filter (λ cell. cell.output == j && is_first cell) cells)

-- what these refused cells come to at output j, which has this limit
abbrev pub refused_at : List Cell → ℕ → ℕ → Refused
refused_at cells j limit =
    record { output = j; limit = limit; packets = packets_refused j cells; cells = cells_refused j cells }

-- what they come to at each output that has a limit, in order of output
unfoldable pub refused_counts : List (Option ℕ) → List Cell → List Refused
refused_counts limits cells = filter_map (λ at. option_map (refused_at cells at.0) at.1) (enumerate_from 0 limits)

-- a count with these refused cells added
abbrev pub with_cells : List Cell → Refused → Refused
with_cells cells r =
    record {
      output = r.output;
      limit = r.limit;
      packets = r.packets + packets_refused r.output cells;
      cells = r.cells + cells_refused r.output cells;
    }

-- the counts with these refused cells added
abbrev pub with_refused : List Cell → List Refused → List Refused
with_refused cells counts = map (with_cells cells) counts

-- nothing was refused
abbrev pub AreAllZero : List Refused → Type 0
AreAllZero counts = AllByRecursion (λ r. (r.packets ≡ 0) × (r.cells ≡ 0)) counts

-- each cell that comes is admitted, or is counted among those that were refused at its output
abbrev pub EachCountsOnce : Type 0
EachCountsOnce =
    (limits : List (Option ℕ)) (held : List ℕ) (marks : List Bool) (cells : List (Option Cell)) (j : ℕ) →
    let a = admission limits held marks cells in count_for j cells ≡ count_for j a.cells + cells_refused j a.refused
