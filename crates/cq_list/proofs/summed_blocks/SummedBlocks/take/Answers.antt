use Rattle.cq_list.proofs.Terms.{arith, rules, refl}
use Rattle.cq_list.proofs.Sums.{both_left}
use Rattle.cq_list.proofs.Runs.{sum_has, summed_less}
use Rattle.cq_list.proofs.summed_blocks.SummedBlocks.take.Goals as goal

pub take-requires-clause-some : goal.take-requires-clause-some
take-requires-clause-some c =
    sum_has c.self.invariant c.self.view_is c.requires.inside c.index_mut.ensures.value c.index_mut-2.ensures.value
    (both_left c.args.within c.remove-output.ensures.output refl)

pub invariant_of-self : goal.invariant_of-self
invariant_of-self c = search (arith, rules, summed_less, both_left)
