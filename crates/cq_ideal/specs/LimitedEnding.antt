-- Where the run of the ideal switch ends where outputs have limits. What arrives in its last slot may be refused, so
-- no cell need depart there: its slots are those up to the last arrival, or up to the last departure where that is
-- later.
use Rattle.std.specs.Prelude.{◌≡◌, ℕ, List, Option, Result, Ok, Err, IsOkAnd}
use Rattle.std.specs.List.{position_or_len, range_with_len}
use Rattle.cq_base.specs.Arriving.{Arrival, enough}
use Rattle.cq_base.specs.declared.cell.Departure.{Departure}
use Rattle.cq_base.specs.declared.cell.TagFault.{TagFault}
use Rattle.cq_rank.specs.Machine.{Machine}
use Rattle.cq_ideal.specs.Admission.{Marked}
use Rattle.cq_ideal.specs.Ending.{IsEnd, first_slots, is_over}
use Rattle.cq_ideal.specs.IdealRun.{IsEmptyIdeal, departures_of}
use Rattle.cq_ideal.specs.IdealSlot.{IdealState}
use Rattle.cq_ideal.specs.LimitedIdeal.{LimitedRan, limited_run, unlimited}

-- the state of the switch after m slots, if no rank of these was a tag fault
abbrev pub LimitedIdealAfter : List (Option ℕ) → List Machine → List Arrival → Marked IdealState → ℕ →
    Marked IdealState → Type 0
LimitedIdealAfter limits ms came start m s =
    IsOkAnd (limited_run limits ms 0 (first_slots came m) start) (λ ran. ran.after ≡ s)

-- the run ends after n slots, in this state
abbrev pub LimitedIdealEnds : List (Option ℕ) → List Machine → List Arrival → Marked IdealState → ℕ →
    Marked IdealState → Type 0
LimitedIdealEnds limits ms came start n end =
    IsEnd came (LimitedIdealAfter limits ms came start) (λ s. IsEmptyIdeal s.state) n end

-- the least number of slots after which no cell is to come and none waits
unfoldable pub slots_of_limited_run : List (Option ℕ) → List Machine → List Arrival → Marked IdealState → ℕ
slots_of_limited_run limits ms came start =
    position_or_len (λ n. is_over came n (unlimited (limited_run limits ms 0 (first_slots came n) start)))
    (range_with_len 0 (enough came))

-- the whole run: the slots up to its end, or the first tag fault
unfoldable pub whole_limited_run : List (Option ℕ) → List Machine → List Arrival → Marked IdealState →
    Result LimitedRan TagFault
whole_limited_run limits ms came start =
    limited_run limits ms 0 (first_slots came (slots_of_limited_run limits ms came start)) start

-- the departures of a run, in order of slot, then output; or its tag fault
abbrev pub departures_limited : Result LimitedRan TagFault → Result (List Departure) TagFault
departures_limited (Ok ran) = Ok (departures_of 0 ran.gone)
departures_limited (Err fault) = Err fault
