use Rattle.cq_slot_trials.proofs.Terms.{ap, rules, subst, sym, arith, IdealSwitch, CanCount, zero_fits, ℕ, ◌+◌, ◌≤◌, ◌*◌}
use Rattle.cq_slot_trials.proofs.tests.ideal.come_to.Goals as goal

pub run-fault-requires-clause-trial : goal.run-fault-requires-clause-trial
run-fault-requires-clause-trial g c =
    let none = sym (ap (λ (v : IdealSwitch). v.refused) c.in_ok-ideal.ensures) in
    let counts = λ (n : ℕ) (few : n + 64 * 0 ≤ 1000). subst (CanCount n) none (zero_fits n _ (omega arith)) in
    search (rules, counts)
