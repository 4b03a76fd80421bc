use Rattle.cq_stream.proofs.Terms.{◌≡◌, SameProducer, sent}
use Rattle.cq_stream.proofs.finding.push.Given as goal

abbrev pub invariant-turns : goal.invariant-turns
invariant-turns g l =
    (sent l.items ≡ sent l.initial.items) × (l.item ≡ l.initial.item) × SameProducer l.initial.items l.items
