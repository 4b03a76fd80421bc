use Rattle.cq_list.proofs.Terms.{arith, rules}
use Rattle.cq_list.proofs.Sums.{both_parts}
use Rattle.cq_list.proofs.Runs.{split_fits, split_in_two, sum_has, summed_less}
use Rattle.cq_list.proofs.summed_blocks.SummedBlocks.split.Goals as goal

pub subtract-requires : goal.subtract-requires
subtract-requires c = search (arith, rules, sum_has, both_parts)

pub invariant_of-self : goal.invariant_of-self
invariant_of-self c = search (arith, rules, summed_less, both_parts)

pub insert-requires-clause-fits : goal.insert-requires-clause-fits
insert-requires-clause-fits c = search (arith, rules, split_fits)

pub returns-clause-blocks : goal.returns-clause-blocks
returns-clause-blocks c = search (arith, rules, split_in_two)
