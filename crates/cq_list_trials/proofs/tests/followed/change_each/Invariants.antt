use Rattle.cq_list_trials.proofs.Terms.{◌≤◌, ◌+◌}
use Rattle.cq_list_trials.proofs.Followed.{Changing}
use Rattle.cq_list_trials.proofs.tests.followed.change_each.Given as goal

-- of the lists of the inputs before this one each has changed that has a partner
abbrev pub invariant-loop-input : goal.invariant-loop-input
invariant-loop-input l = record {
  changing : Changing l.changed l.slot l.initial.lists l.lists;
  few : l.slot ≤ l.first + l.input;
}
