use Rattle.cq_slot_trials.proofs.Terms.{◌+◌, rules, arith, ℕ, ◌<◌, ◌*◌, ◌^◌}
use Rattle.cq_slot_trials.proofs.tests.engine.run.Goals as goal

pub slots-init : goal.slots-init
slots-init g c =
    let counts = λ (n : ℕ) (few : n + 64 * 0 < 2 ^ 64). c.requires.counts n (omega arith) in search (rules, counts)

pub step-requires-clause-counts : goal.step-requires-clause-counts
step-requires-clause-counts g c = search (arith, rules, c.slots.invariant.counts 4)

pub slots-preserved : goal.slots-preserved
slots-preserved g c =
    let counts = λ (n : ℕ) (few : n + 64 * (c.slots.coming-index + 1) < 2 ^ 64).
    c.in_default.ensures.counts n (c.slots.invariant.counts (n + 64) (omega arith)) in
    search (rules, counts)
