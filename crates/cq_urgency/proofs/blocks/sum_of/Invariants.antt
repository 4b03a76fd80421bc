use Rattle.cq_urgency.proofs.Terms.{◌≡◌, ◌+◌, take, sum_by}
use Rattle.cq_urgency.proofs.blocks.sum_of.Given as goal

abbrev pub invariant-places : goal.invariant-places
invariant-places l =
    sum_by (λ n. n) (take l.from l.counts.items) + l.sum ≡ sum_by (λ n. n) (take l.place l.counts.items)
