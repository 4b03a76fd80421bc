-- Only proofs use this. What a fabric of tables is made of, for the cells that arrive, one that has had no slot, and
-- one that goes on from where another stood still; and an ideal switch that has had no slot.
use Rattle.std.specs.Prelude.{◌≡◌, List, length, map}
use Rattle.cq_base.specs.Arriving.{Arrival}
use Rattle.cq_cells.specs.Traffic.{is_from, is_to}
use Rattle.cq_engine.specs.Engine.{EngineView, fresh_engine, thawed_engine}
use Rattle.cq_ideal.specs.Fresh.{fresh_ideal}
use Rattle.cq_ideal.specs.Ideal.{IdealSwitch}
use Rattle.cq_laws.specs.declared.frozen.Frozen.{Frozen}
use Rattle.cq_rank.specs.Switch.{AreForOneSwitch, class_count}
use Rattle.cq_route.specs.Tables.{ports_of}
use Rattle.cq_route.specs.declared.tables.Tables.{Tables}
use Rattle.cq_scfq.specs.Discipline.{fixed_of, machine_from, state_of}
use Rattle.cq_scfq.specs.Disciplines.{machines_of, openings_of}
use Rattle.cq_simulate.specs.ScheduleFor.{by_port}
use Rattle.cq_simulate.specs.declared.ports.Ports.{Ports}

-- the ranks are those of the tables, in their opening states, and there is room for what comes
pub record ArePortsFor (t : Tables) (came : List Arrival) (p : Ports) : Type 0 where
  pub machines : map machine_from (map fixed_of p.ranks.items) ≡ machines_of t.setup
  pub openings : map state_of p.ranks.items ≡ openings_of t.setup
  pub classes : class_count (machines_of t.setup) ≡ length t.setup.classes
  pub one_switch : AreForOneSwitch (machines_of t.setup)
  pub many : length p.ranks.items ≡ ports_of t.setup
  pub from_inputs : p.from_inputs.items ≡ by_port is_from t came
  pub to_outputs : p.to_outputs.items ≡ by_port is_to t came

-- it has the machines of the tables in their opening states, and has had no slot
pub record IsFreshFor (t : Tables) (came : List Arrival) (engine : EngineView) : Type 0 where
  pub machines : map machine_from engine.fixed ≡ machines_of t.setup
  pub classes : class_count (machines_of t.setup) ≡ length t.setup.classes
  pub fresh : engine ≡ fresh_engine (ports_of t.setup) engine.fixed (openings_of t.setup) (by_port is_from t came)
      (by_port is_to t came) t.limits

-- it has the machines of the tables, and stands where another stood still
pub record GoesOnFrom (t : Tables) (came : List Arrival) (frozen : Frozen) (engine : EngineView) : Type 0 where
  pub machines : map machine_from engine.fixed ≡ machines_of t.setup
  pub classes : class_count (machines_of t.setup) ≡ length t.setup.classes
  pub stands : engine ≡ thawed_engine engine.fixed t.limits (by_port is_from t came) (by_port is_to t came) frozen

-- an ideal switch of the tables that has had no slot
pub record IsIdealFor (t : Tables) (came : List Arrival) (ideal : IdealSwitch) : Type 0 where
  pub machines : map machine_from ideal.fixed ≡ machines_of t.setup
  pub classes : class_count (machines_of t.setup) ≡ length t.setup.classes
  pub fresh : ideal ≡ fresh_ideal (ports_of t.setup) ideal.fixed (openings_of t.setup) t.limits (by_port is_to t came)
