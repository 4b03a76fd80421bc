use Rattle.cq_slot_trials.proofs.Terms.{◌≡◌, ℕ, ◌+◌, ◌*◌, ◌^◌, ◌<◌, map, CanCount, HasGrown, IsOnTrial}
use Rattle.cq_slot_trials.proofs.tests.engine.run.Given as goal

abbrev pub invariant-slots : goal.invariant-slots
invariant-slots g l = record {
  trial : IsOnTrial (map g.R.Rank.machine l.engine.fixed) l.engine;
  next : l.engine.next ≡ l.coming-index;
  grown : HasGrown l.coming-index l.engine;
  counts : (n : ℕ) → n + 64 * l.coming-index < 2 ^ 64 → CanCount n l.engine.refused;
}
