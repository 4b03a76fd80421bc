use Rattle.cq_slot_trials.proofs.Terms.{◌+◌, rules, arith, ℕ, ◌≤◌, ◌*◌}
use Rattle.cq_slot_trials.proofs.tests.ideal.run.Goals as goal

pub step-requires : goal.step-requires
step-requires g c = search (arith, rules, c.slots.invariant.spare, c.slots.invariant.counts 3)

pub slots-preserved : goal.slots-preserved
slots-preserved g c =
    let now = c.slots.invariant in
    let next = c.in_default.ensures.stepped in
    let counts = λ (n : ℕ) (few : n + 64 * (c.slots.coming-index + 1) ≤ 1000).
    next.counts n (now.counts (n + 64) (omega arith)) in
    search (arith, rules, counts, now.spare, next.spare)
