-- A schedule that a switch of tables can run over, and how many of its cells are of each port.
use Rattle.std.specs.Prelude.{◌≡◌, ℕ, Bool, List, map}
use Rattle.std.specs.List.{range_with_len}
use Rattle.cq_base.specs.Arriving.{Arrival}
use Rattle.cq_cells.specs.Scheduled.{Scheduled}
use Rattle.cq_cells.specs.Traffic.{IsShort, IsTraffic, number_of}
use Rattle.cq_route.specs.Tables.{AreTables, classes_of, ports_of}
use Rattle.cq_route.specs.declared.tables.Tables.{Tables}

-- it is of as many ports as the tables, its cells are of their ports and classes, and a run over it is short enough
pub record IsScheduleFor (t : Tables) (schedule : Scheduled) : Type 0 where
  pub tables : AreTables t
  pub ports : schedule.ports ≡ ports_of t.setup
  pub traffic : IsTraffic (ports_of t.setup) (classes_of t.setup) schedule.came
  pub short : IsShort schedule.came

-- how many of the arrivals are of each port
abbrev pub by_port : (ℕ → Arrival → Bool) → Tables → List Arrival → List ℕ
by_port is t came = map (λ port. number_of (is port) came) (range_with_len 0 (ports_of t.setup))
