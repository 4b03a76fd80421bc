-- Only proofs use this.
-- The engine of the trials: four ports, two classes, and room for all cells of 40 slots.
use Rattle.std.specs.Prelude.{◌≡◌, ℕ, ◌*◌, ◌≤◌, List, [], ◌∷◌, false, length}
use Rattle.cq_rank.specs.Machine.{Machine}
use Rattle.cq_rank.specs.Switch.{class_count}
use Rattle.cq_laws.specs.Fabric.{input}
use Rattle.cq_laws.specs.Holding.{held_for}
use Rattle.cq_engine.specs.Engine.{EngineView, ports_of}

-- it is of these machines, and can go on
pub record IsOnTrial (ms : List Machine) (e : EngineView) : Type 0 where
  pub running : e.stopped ≡ false
  pub ports : ports_of e ≡ 4
  pub classes : class_count ms ≡ 2
  pub from_inputs : e.from_inputs ≡ 40 ∷ 40 ∷ 40 ∷ 40 ∷ []
  pub to_outputs : e.to_outputs ≡ 2560 ∷ 2560 ∷ 2560 ∷ 2560 ∷ []

-- it has no more cells, and has made no more proposals, than so many slots can bring
pub record HasGrown (count : ℕ) (e : EngineView) : Type 0 where
  pub lists : (i : ℕ) → length (input e.fabric i) ≤ count
  pub held : (j : ℕ) → held_for j e.fabric ≤ 64 * count
  pub proposals : e.figures.proposals ≤ 32 * count
