use Rattle.cq_ideal.proofs.Terms.{arith, rules, admission, refused_counts, flat_map-append, append-nil, append_assoc}
use Rattle.cq_ideal.proofs.Counting.{counts_more, each_once, zero_from}
use Rattle.cq_ideal.proofs.limits.refused_counts_add_up.Goals as goal

pub returns : goal.returns
unfolding admission refused_counts
returns c = search (arith, rules, zero_from, counts_more, flat_map-append, append-nil, append_assoc, each_once)
