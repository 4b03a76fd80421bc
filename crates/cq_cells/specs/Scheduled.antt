-- What clauses see of a schedule.
use Rattle.std.specs.Prelude.{ℕ, List, length}
use Rattle.cq_base.specs.Arriving.{Arrival}
use Rattle.cq_pcap.specs.Captured.{Captured}
use Rattle.cq_route.specs.declared.tables.Tables.{Tables}
use Rattle.cq_cells.specs.Schedule.{t0_of, arrivals}

-- the stamp from which slots are counted, how many ports the switch has, and all arrivals, input after input
pub record Scheduled : Type 0 where
  pub t0 : ℕ
  pub ports : ℕ
  pub came : List Arrival

-- the schedule of captures, one for each port
abbrev pub schedule_of : Tables → List (List Captured) → Scheduled
schedule_of t captures =
    record { t0 = t0_of captures; ports = length captures; came = arrivals t captures }
