-- What is admitted at an input are whole packets.
use Rattle.std.specs.Prelude.{◌≡◌, ℕ, ◌+◌, ◌<◌, ◌≤◌, ◌==◌, ◌⊎◌, Bool, true, false, List, [], ◌∷◌, map, filter, filter_map, Option, Ok}
use Rattle.cq_base.specs.declared.cell.Cell.{Cell}
use Rattle.cq_base.specs.Arrivals.{arrival_at}
use Rattle.cq_base.specs.Arriving.{Arrival, traffic_of}
use Rattle.cq_base.specs.Limits.{most_ports}
use Rattle.cq_rank.specs.Machine.{Machine}
use Rattle.cq_ideal.specs.Admission.{Admission, Marked, admission, admitted_in, is_first}
use Rattle.cq_ideal.specs.Flows.{RiseByInput}
use Rattle.cq_ideal.specs.IdealSlot.{IdealState}
use Rattle.cq_ideal.specs.LimitedIdeal.{LimitedRan, limited_run}

-- Slot by slot the arrivals were judged, each time by some numbers of cells that the outputs hold, from these marks on.
abbrev pub AreJudged : List (Option ℕ) → List Bool → List (List (Option Cell)) → List Admission → Type 0
AreJudged limits marks [] [] = Unit {0}
AreJudged limits marks [] (a ∷ admissions) = ⊥
AreJudged limits marks (cells ∷ traffic) [] = ⊥
AreJudged limits marks (cells ∷ traffic) (a ∷ admissions) =
    ((held : List ℕ) × (a ≡ admission limits held marks cells)) × AreJudged limits a.marks traffic admissions

-- the cells that arrive at input i, slot by slot
abbrev pub cells_at : ℕ → List (List (Option Cell)) → List Cell
cells_at i traffic = filter_map (λ cells. arrival_at cells i) traffic

-- the cells that come to input i, in the order of the arrivals
abbrev pub came_at : ℕ → List Arrival → List Cell
came_at i came = map (λ a. a.cell) (filter (λ a. a.cell.id.input == i) came)

-- where arrivals rise by input, those are the cells that arrive at the input slot by slot
abbrev pub CellsComeInOrder : Type 0
CellsComeInOrder =
    (i : ℕ) (came : List Arrival) → i < most_ports → RiseByInput came → cells_at i (traffic_of came) ≡ came_at i came

-- The cells are those of packets of rising numbers, from this number on, each with its first cell first; ahead of
-- them may stand the rest of the packet before.
abbrev pub AreOfPackets : ℕ → List Cell → Type 0
AreOfPackets next [] = Unit {0}
AreOfPackets next (cell ∷ cells) =
    (((cell.id.packet + 1 ≡ next) × (is_first cell ≡ false)) ⊎ ((next ≤ cell.id.packet) × (is_first cell ≡ true)))
    × AreOfPackets (cell.id.packet + 1) cells

-- of these cells the others are all that belong to some of the packets
pub record AreWholePackets (came taken : List Cell) : Type 0 where
  pub is_taken : ℕ → Bool
  pub are : taken ≡ filter (λ cell. is_taken cell.id.packet) came

-- Whatever the outputs hold as the arrivals are judged, of the cells that come to an input those that are admitted
-- are all cells of some of the packets.
abbrev pub WholePacketsAreAdmitted : Type 0
WholePacketsAreAdmitted =
    (limits : List (Option ℕ)) (marks : List Bool) (traffic : List (List (Option Cell))) (i : ℕ)
    (admissions : List Admission) → AreJudged limits marks traffic admissions → AreOfPackets 0 (cells_at i traffic) →
    AreWholePackets (cells_at i traffic) (cells_at i (admitted_in admissions))

-- so it is in the runs of the ideal switch
abbrev pub RunsAdmitWholePackets : Type 0
RunsAdmitWholePackets =
    (limits : List (Option ℕ)) (ms : List Machine) (slot : ℕ) (traffic : List (List (Option Cell)))
    (old : Marked IdealState) (ran : LimitedRan) (i : ℕ) →
    limited_run limits ms slot traffic old ≡ Ok ran → AreOfPackets 0 (cells_at i traffic) →
    AreWholePackets (cells_at i traffic) (cells_at i (admitted_in ran.admissions))
