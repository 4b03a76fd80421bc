use Rattle.cq_list_trials.proofs.Terms.{◌≡◌, length}
use Rattle.cq_list_trials.proofs.tests.followed.drawn_matching.Given as goal

-- the matching is of so many ports
abbrev pub invariant-loop : goal.invariant-loop
invariant-loop l = length l.matching ≡ l.ports
