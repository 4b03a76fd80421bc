use Rattle.cq_list_trials.proofs.Terms.{◌≡◌, ℕ, ◌<◌, Some, slice_get, Queued, IsBefore}
use Rattle.cq_list_trials.proofs.tests.list.least_cushion.Given as goal

-- the more urgent cells so far stand ahead
abbrev pub invariant-places : goal.invariant-places
invariant-places l = (at : ℕ) (x : Queued) → at < l.place → slice_get l.list.cells at ≡ Some x →
    x.cell.output ≡ l.queued.cell.output → IsBefore x l.queued → at < l.least
