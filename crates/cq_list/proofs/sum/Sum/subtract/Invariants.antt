use Rattle.cq_list.proofs.Terms.{[]}
use Rattle.cq_list.proofs.Sums.{IsBegun}
use Rattle.cq_list.proofs.sum.Sum.subtract.Given as goal

-- the places and the counts of the outputs before this one are out
abbrev pub invariant-outputs : goal.invariant-outputs
invariant-outputs l = IsBegun l.output l.block [] l.fn.self
    (record { places = l.self-inside.places; counts = l.self-inside.counts })
