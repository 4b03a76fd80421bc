use Rattle.cq_list.specs.Sums.{AreTaking}
use Rattle.cq_list.proofs.summed_blocks.take_on.Given as goal

-- the runs ahead of this one are right
abbrev pub invariant-runs : goal.invariant-runs
invariant-runs l = AreTaking l.blocks.items l.fn.offset l.sums l.next
