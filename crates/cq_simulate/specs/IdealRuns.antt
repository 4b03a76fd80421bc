-- The ideal switch of the ranks and the limits that tables describe, run over the cells that arrive.
use Rattle.std.specs.Prelude.{◌≡◌, ℕ, List, Option, Result, Ok, Err}
use Rattle.cq_base.specs.Arriving.{Arrival}
use Rattle.cq_base.specs.declared.cell.Departure.{Departure}
use Rattle.cq_base.specs.declared.cell.TagFault.{TagFault}
use Rattle.cq_ideal.specs.LimitedEnding.{departures_limited, slots_of_limited_run, whole_limited_run}
use Rattle.cq_ideal.specs.LimitedIdeal.{LimitedRan, empty_limited}
use Rattle.cq_ideal.specs.Refused.{refused_counts, refused_in}
use Rattle.cq_ideal.specs.declared.refused.Refused.{Refused}
use Rattle.cq_route.specs.Tables.{ports_of}
use Rattle.cq_route.specs.declared.tables.Tables.{Tables}
use Rattle.cq_simulate.specs.declared.refusal.RunRefusal.{RunRefusal}
use Rattle.cq_simulate.specs.declared.refusal.RunRefusal.TheVariants.{Tag, NoMemory}
use Rattle.cq_scfq.specs.Disciplines.{machines_of, openings_of}

-- the whole run, from empty lists and marks down on up to its end: what it admits and refuses in each slot, and what
-- each output sends, or the first tag fault
unfoldable pub ran_ideal : Tables → List Arrival → Result LimitedRan TagFault
ran_ideal t came =
    whole_limited_run t.limits (machines_of t.setup) came (empty_limited (ports_of t.setup) (openings_of t.setup))

-- after how many slots that run ends
abbrev pub slots_ran : Tables → List Arrival → ℕ
slots_ran t came =
    slots_of_limited_run t.limits (machines_of t.setup) came (empty_limited (ports_of t.setup) (openings_of t.setup))

-- what these slots refuse in numbers, or their tag fault
abbrev pub counts_limited : List (Option ℕ) → Result LimitedRan TagFault → Result (List Refused) TagFault
counts_limited limits (Ok ran) = Ok (refused_counts limits (refused_in ran.admissions))
counts_limited limits (Err fault) = Err fault

-- the departures of the ideal switch, or its first tag fault
unfoldable pub ideal_departures : Tables → List Arrival → Result (List Departure) TagFault
ideal_departures t came = departures_limited (ran_ideal t came)

-- how many packets and cells it refuses, at each output that has a limit, in order of output; or its first tag fault
unfoldable pub ideal_refusals : Tables → List Arrival → Result (List Refused) TagFault
ideal_refusals t came = counts_limited t.limits (ran_ideal t came)

-- why a run of which this is known has no result: it meets this tag fault, or memory ran out
abbrev pub IsRefusalOf : {A : Type 0} → Result A TagFault → RunRefusal → Type 0
IsRefusalOf run (Tag fault) = run ≡ Err fault
IsRefusalOf run NoMemory = Unit {0}
