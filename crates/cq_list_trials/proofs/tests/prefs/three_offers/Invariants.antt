use Rattle.cq_list_trials.proofs.Terms.{◌≡◌, length, All}
use Rattle.cq_list_trials.proofs.tests.prefs.three_offers.Given as goal

-- there is a list for each input before this one
abbrev pub invariant-lists : goal.invariant-lists
invariant-lists l =
    record { len : length l.lists.items ≡ l.input; outputs : All (λ list. list.outputs ≡ 3) l.lists.items }
