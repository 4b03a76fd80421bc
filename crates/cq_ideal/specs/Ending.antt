-- Where a run ends: after the last slot in which a cell arrives, waits or leaves.
use Rattle.std.specs.Prelude.{◌≡◌, ℕ, ◌+◌, ◌≤◌, ◌&&◌, ◌==◌, nat_le, max, Bool, false, List, [], ◌∷◌, length, map, Option, Result, Ok, Err, IsOkAnd}
use Rattle.std.specs.List.{list_all, position_or_len, range_with_len}
use Rattle.cq_base.specs.Arriving.{Arrival, arriving, end_of, enough}
use Rattle.cq_base.specs.declared.cell.Cell.{Cell}
use Rattle.cq_base.specs.declared.cell.Departure.{Departure}
use Rattle.cq_base.specs.declared.cell.TagFault.{TagFault}
use Rattle.cq_rank.specs.Machine.{Machine}
use Rattle.cq_ideal.specs.IdealRun.{IsEmptyIdeal, Ran, ideal_run}
use Rattle.cq_ideal.specs.IdealSlot.{IdealState}

-- ## Any switch

-- what arrives in n slots from this one on
unfoldable pub arriving_from : List Arrival → ℕ → ℕ → List (List (Option Cell))
arriving_from came slot n = map (arriving came) (range_with_len slot n)

-- what arrives in the first n slots
abbrev pub first_slots : List Arrival → ℕ → List (List (Option Cell))
first_slots came n = arriving_from came 0 n

-- A run ends after n slots, in this state: no later slot has an arrival, nothing waits, and both hold after no fewer
-- slots. `After m s` says that the state after m slots is s, and `IsEmpty s` that nothing waits in it.
pub record IsEnd {S : Type 0} (came : List Arrival) (After : ℕ → S → Type 0) (IsEmpty : S → Type 0) (n : ℕ) (end : S)
    : Type 0 where
  pub after : After n end
  pub all_came : end_of came ≤ n
  pub empty : IsEmpty end
  pub first : (m : ℕ) (s : S) → After m s → end_of came ≤ m → IsEmpty s → n ≤ m

-- how many slots there are up to the last departure, its own included; 0 where none left
abbrev pub slots_of : List Departure → ℕ
slots_of [] = 0
slots_of (d ∷ sent) = max (d.slot + 1) (slots_of sent)

-- ## The ideal switch

-- the state of the ideal switch after m slots, if no rank of these was a tag fault
abbrev pub IdealAfter : List Machine → List Arrival → IdealState → ℕ → IdealState → Type 0
IdealAfter ms came start m s = IsOkAnd (ideal_run ms 0 (first_slots came m) start) (λ ran. ran.after ≡ s)

-- the run of the ideal switch ends after n slots, in this state
abbrev pub IdealEnds : List Machine → List Arrival → IdealState → ℕ → IdealState → Type 0
IdealEnds ms came start n end = IsEnd came (IdealAfter ms came start) IsEmptyIdeal n end

-- whether no cell is to come after n slots, and none waits
abbrev pub is_over : List Arrival → ℕ → Result Ran TagFault → Bool
is_over came n (Ok ran) = nat_le (end_of came) n && list_all (λ cells. length cells == 0) ran.after.lists
is_over came n (Err fault) = false

-- the least number of slots after which that is so
unfoldable pub slots_of_run : List Machine → List Arrival → IdealState → ℕ
slots_of_run ms came start =
    position_or_len (λ n. is_over came n (ideal_run ms 0 (first_slots came n) start)) (range_with_len 0 (enough came))

-- the whole run: the slots up to its end, or the first tag fault
unfoldable pub whole_ideal_run : List Machine → List Arrival → IdealState → Result Ran TagFault
whole_ideal_run ms came start = ideal_run ms 0 (first_slots came (slots_of_run ms came start)) start
