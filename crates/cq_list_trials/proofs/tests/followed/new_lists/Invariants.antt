use Rattle.cq_list_trials.proofs.Terms.{◌≡◌, [], length, All}
use Rattle.cq_list_trials.proofs.tests.followed.new_lists.Given as goal

-- the lists so far have no cells
abbrev pub invariant-loop : goal.invariant-loop
invariant-loop l = record {
  len : length l.lists.items ≡ l.counter;
  outputs : All (λ list. list.outputs ≡ l.ports) l.lists.items;
  cells : All (λ list. list.cells ≡ []) l.lists.items;
  room : All (λ list. list.spare ≡ 32) l.lists.items;
}
