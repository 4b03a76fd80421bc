-- One slot of the ideal output-queued switch (Chuang, Goel, McKeown and Prabhakar 1999): it has a list for each
-- output and nothing else.
use Rattle.std.specs.Prelude.{ℕ, ◌+◌, if◌then◌else◌, List, [], ◌∷◌, length, map, Option, Some, None, Result, Ok, Err, slice_get, slice_index_or, drop, replicate}
use Rattle.std.specs.List.{range_with_len}
use Rattle.cq_base.specs.declared.cell.Cell.{Cell}
use Rattle.cq_base.specs.declared.cell.Departure.{Departure}
use Rattle.cq_base.specs.declared.cell.Queued.{Queued}
use Rattle.cq_base.specs.declared.cell.TagFault.{TagFault}
use Rattle.cq_base.specs.Cells.{put, is_for}
use Rattle.cq_rank.specs.Machine.{Machine, machine_at, told}
use Rattle.cq_ideal.specs.Ranking.{Ranking, ranking}

-- per output the cells that wait for it, in the order of their keys, and the state of its rank machine
pub record IdealState : Type 0 where
  pub lists : List (List Queued)
  pub ranks : List (List ℕ)

-- the list of output j with the slot's arrivals for it, each at its place in the order of keys
abbrev pub put_all : ℕ → List (Option Queued) → List Queued → List Queued
put_all j [] xs = xs
put_all j (None ∷ came) xs = put_all j came xs
put_all j (Some q ∷ came) xs = put_all j came (if is_for j q then put q xs else xs)

-- the lists after the slot's arrivals
unfoldable pub filled : List (Option Queued) → List (List Queued) → List (List Queued)
filled came lists = map (λ j. put_all j came (slice_index_or lists j [])) (range_with_len 0 (length lists))

-- what each output sends: the first cell of its list, or nothing where that is empty
abbrev pub fronts : List (List Queued) → List (Option Queued)
fronts lists = map (λ xs. slice_get xs 0) lists

-- what is left of each list
abbrev pub rests : List (List Queued) → List (List Queued)
rests lists = map (λ xs. drop 1 xs) lists

-- the rank states after each output sent this cell, or none
unfoldable pub all_told : List Machine → List (Option Queued) → List (List ℕ) → List (List ℕ)
all_told ms gone ranks =
    map (λ j. told (machine_at ms j) (slice_index_or ranks j []) (slice_index_or gone j None))
    (range_with_len 0 (length ranks))

-- the rank states after a slot in which none of so many outputs sent a cell
unfoldable pub idled : List Machine → ℕ → List (List ℕ) → List (List ℕ)
idled ms ports ranks = all_told ms (replicate ports None) ranks

-- what a slot comes to: the cell that each output sent, if it sent one, and the state after it
pub record Sent : Type 0 where
  pub gone : List (Option Queued)
  pub after : IdealState

-- once the arrivals are ranked they are put into the lists, and then each output sends
abbrev pub ideal_sends : List Machine → IdealState → Result Ranking TagFault → Result Sent TagFault
ideal_sends ms old (Err fault) = Err fault
ideal_sends ms old (Ok r) =
    let lists = filled r.came old.lists in
    Ok (record {
      gone = fronts lists;
      after = record { lists = rests lists; ranks = all_told ms (fronts lists) r.ranks };
    })

-- one slot with these arrivals
unfoldable pub ideal_slot : List Machine → ℕ → List (Option Cell) → IdealState → Result Sent TagFault
ideal_slot ms slot cells old = ideal_sends ms old (ranking ms slot 0 cells old.ranks)

-- the departures of a slot in order of output, here from output j on
abbrev pub departures_from : ℕ → ℕ → List (Option Queued) → List Departure
departures_from slot j [] = []
departures_from slot j (None ∷ gone) = departures_from slot (j + 1) gone
departures_from slot j (Some q ∷ gone) =
    record { slot = slot; output = j; queued = q } ∷ departures_from slot (j + 1) gone

-- the departures of a slot
unfoldable pub departures_in : ℕ → List (Option Queued) → List Departure
departures_in slot gone = departures_from slot 0 gone
