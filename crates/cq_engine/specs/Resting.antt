-- Slots in which nothing comes to an engine and nothing waits there.
use Rattle.std.specs.Prelude.{◌≡◌, ℕ, ◌-◌, List, false, replicate}
use Rattle.cq_base.specs.Arrivals.{no_arrivals}
use Rattle.cq_rank.specs.Machine.{Machine}
use Rattle.cq_prefs.specs.Pairing.{IsInputBest}
use Rattle.cq_laws.specs.LimitedFabric.{LimitedFabricRun}
use Rattle.cq_laws.specs.LimitedQuiet.{quiet_limited_slots}
use Rattle.cq_engine.specs.Engine.{EngineView, marked_fabric, ports_of}

-- the slots from this one on up to the later one are behind the engine: none of them sent, moved or refused a cell, or
-- changed a figure
pub record HasRested (ms : List Machine) (slot later : ℕ) (old new : EngineView) : Type 0 where
  pub slots : LimitedFabricRun IsInputBest old.limits ms slot (replicate (later - slot) no_arrivals) (marked_fabric old)
      (quiet_limited_slots ms (later - slot) slot (ports_of old) old.fabric.ranks old.marks) (marked_fabric new)
  pub next : new.next ≡ later
  pub running : new.stopped ≡ false
  pub fixed : new.fixed ≡ old.fixed
  pub limits : new.limits ≡ old.limits
  pub marks : new.marks ≡ old.marks
  pub refused : new.refused ≡ old.refused
  pub figures : new.figures ≡ old.figures
  pub inputs : new.fabric.inputs ≡ old.fabric.inputs
  pub buffers : new.fabric.buffers ≡ old.fabric.buffers
  pub from_inputs : new.from_inputs ≡ old.from_inputs
  pub to_outputs : new.to_outputs ≡ old.to_outputs
