use Rattle.cq_list_trials.proofs.Terms.{◌≡◌, ports}
use Rattle.cq_list_trials.proofs.tests.followed.agree_after_changes.Given as goal

-- the offers that are filled anew are of as many ports
abbrev pub invariant-loop : goal.invariant-loop
invariant-loop l = ports l.filled ≡ l.switch
