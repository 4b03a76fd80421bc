-- Every packet leaves or is refused, once. What is refused at an input are the packets that are not admitted, with
-- all their cells, so those that left and those that were refused are together all that came.
use Rattle.std.specs.Prelude.{◌≡◌, ℕ, ◌<◌, ◌==◌, Bool, not, List, filter, Option, None, Ok, slice_index_or}
use Rattle.std.specs.List.{AllPairs}
use Rattle.cq_base.specs.Arriving.{Arrival}
use Rattle.cq_base.specs.declared.cell.Cell.{Cell}
use Rattle.cq_base.specs.declared.cell.Departure.{Departure}
use Rattle.cq_base.specs.Limits.{most_ports}
use Rattle.cq_rank.specs.Machine.{Machine}
use Rattle.cq_ideal.specs.Flows.{IsRunnable, came_in_flow, left_in_flow}
use Rattle.cq_ideal.specs.IdealRun.{departures_of}
use Rattle.cq_ideal.specs.LimitedEnding.{whole_limited_run}
use Rattle.cq_ideal.specs.LimitedIdeal.{LimitedRan, empty_limited}
use Rattle.cq_ideal.specs.Refused.{cells_refused, refused_in}
use Rattle.cq_ideal.specs.WholePackets.{AreOfPackets, came_at}

-- At input i some packets are taken in. Of each flow from there exactly their cells left, in the order in which they
-- came, and all cells of the others were refused, in that order too.
pub record LeaveOrAreRefused (came : List Arrival) (gone : List Departure) (refused : List Cell) (i : ℕ) : Type 0 where
  pub is_taken : ℕ → Bool
  pub left : (c j : ℕ) → left_in_flow i c j gone ≡ filter (λ cell. is_taken cell.id.packet) (came_in_flow i c j came)
  pub others : filter (λ cell. cell.id.input == i) refused
      ≡ filter (λ cell. not (is_taken cell.id.packet)) (came_at i came)

-- the cells of one packet are for one output
abbrev pub KeepTheirOutput : List Arrival → Type 0
KeepTheirOutput came =
    AllPairs (λ a b. a.cell.id.input ≡ b.cell.id.input → a.cell.id.packet ≡ b.cell.id.packet →
    a.cell.output ≡ b.cell.output) came

-- So it is in a whole run that meets no tag fault, whatever the limits.
abbrev pub EachLeavesOrIsRefused : Type 0
EachLeavesOrIsRefused =
    (limits : List (Option ℕ)) (ms : List Machine) (ports : ℕ) (openings : List (List ℕ)) (came : List Arrival)
    (ran : LimitedRan) → IsRunnable ms ports openings came →
    whole_limited_run limits ms came (empty_limited ports openings) ≡ Ok ran →
    (i : ℕ) → i < most_ports → AreOfPackets 0 (came_at i came) →
    LeaveOrAreRefused came (departures_of 0 ran.gone) (refused_in ran.admissions) i

-- And at an output without a limit nothing is refused.
abbrev pub RefusesNoneElsewhere : Type 0
RefusesNoneElsewhere =
    (limits : List (Option ℕ)) (ms : List Machine) (ports : ℕ) (openings : List (List ℕ)) (came : List Arrival)
    (ran : LimitedRan) (j : ℕ) → IsRunnable ms ports openings came → KeepTheirOutput came →
    ((i : ℕ) → i < most_ports → AreOfPackets 0 (came_at i came)) →
    whole_limited_run limits ms came (empty_limited ports openings) ≡ Ok ran →
    slice_index_or limits j None ≡ None → cells_refused j (refused_in ran.admissions) ≡ 0
