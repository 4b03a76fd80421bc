use Rattle.cq_fabric.proofs.Terms.{◌≡◌, ℕ, List, [], replicate, arith, rules, empty_list, Queued}
use Rattle.cq_fabric.specs.Holding.{CanHold}
use Rattle.cq_fabric.proofs.queues.Queues.new.Goals as goal

none_held : (n : ℕ) (from to : List ℕ) (lists buffers : List (List Queued)) → lists ≡ replicate n [] →
    buffers ≡ replicate n [] → CanHold from to lists buffers
none_held n from to lists buffers no_lists no_buffers = rw (no_lists, no_buffers) (record {
  inputs = λ i inside. rw (empty_list n i) (search (arith, rules));
  outputs = λ j inside. rw (empty_list n j) (search (arith, rules));
})

pub holding-requires-clause-hold : goal.holding-requires-clause-hold
holding-requires-clause-hold c = search (arith, rules, none_held)
