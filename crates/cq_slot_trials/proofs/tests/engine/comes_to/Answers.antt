use Rattle.cq_slot_trials.proofs.EngineSlots.{counts_first, grown_first}
use Rattle.cq_slot_trials.proofs.tests.engine.comes_to.Goals as goal

pub run-runs-requires-clause-grown : goal.run-runs-requires-clause-grown
run-runs-requires-clause-grown g c = λ _ _. grown_first _ _ _ _ _ _ c.in_ok-engine.engine c.in_ok-engine.ensures

pub run-runs-requires-clause-counts : goal.run-runs-requires-clause-counts
run-runs-requires-clause-counts g c = λ _ _. counts_first _ _ _ _ _ _ c.in_ok-engine.engine c.in_ok-engine.ensures
