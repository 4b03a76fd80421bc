-- What a state is judged by.
use Rattle.std.specs.Prelude.{◌≡◌, ℕ, List, length, Option, None, Some, slice_index_or}
use Rattle.cq_base.specs.Arriving.{Arrival}
use Rattle.cq_base.specs.declared.setup.Setup.{Setup}
use Rattle.cq_cells.specs.Scheduled.{Scheduled, schedule_of}
use Rattle.cq_pcap.specs.Captured.{Captured}
use Rattle.cq_rank.specs.Machine.{Machine}
use Rattle.cq_rank.specs.Switch.{AreSized}
use Rattle.cq_route.specs.declared.tables.Tables.{Tables}
use Rattle.cq_route.specs.Tables.{classes_of, ports_of}
use Rattle.cq_scfq.specs.Disciplines.{machines_of}
use Rattle.cq_state.specs.declared.state.Head.{Head}
use Rattle.cq_state.specs.declared.state.State.{State}

-- a switch with what arrives at it: per output its machine and its limit, the number of its classes, the stamp from
-- which slots are counted, and the cells
pub record Switch : Type 0 where
  pub machines : List Machine
  pub limits : List (Option ℕ)
  pub classes : ℕ
  pub t0 : ℕ
  pub came : List Arrival

-- the switch of this setup, with these limits of its outputs, and with this schedule
abbrev pub switch_with : Setup → List (Option ℕ) → Scheduled → Switch
switch_with setup limits s =
    record {
      machines = machines_of setup;
      limits = limits;
      classes = classes_of setup;
      t0 = s.t0;
      came = s.came;
    }

-- the switch that these tables and this schedule describe
abbrev pub switch_of : Tables → Scheduled → Switch
switch_of t s = switch_with t.setup t.limits s

-- the schedule is that of these tables, for some captures, one for each port
pub record IsScheduleOf (t : Tables) (s : Scheduled) : Type 0 where
  pub captures : List (List Captured)
  pub ports : length captures ≡ ports_of t.setup
  pub schedule : s ≡ schedule_of t captures

-- the output has a limit
abbrev pub HasLimit : List (Option ℕ) → ℕ → Type 0
HasLimit limits j = (limit : ℕ) × (slice_index_or limits j None ≡ Some limit)

-- the first lines of a state tell of this switch
pub record IsHeadOf (w : Switch) (head : Head) : Type 0 where
  pub ports : head.ports ≡ length w.machines
  pub classes : head.classes ≡ w.classes
  pub t0 : head.t0 ≡ w.t0
  pub total : head.total ≡ length w.came

-- the state tells of a switch of this shape, and each of its rank states has as many numbers as its machine asks for
pub record HasShape (w : Switch) (s : State) : Type 0 where
  pub head : IsHeadOf w s.head
  pub ranks : AreSized w.machines s.ranks
