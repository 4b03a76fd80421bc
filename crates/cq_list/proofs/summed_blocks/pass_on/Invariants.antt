use Rattle.cq_list.specs.Sums.{ArePassing}
use Rattle.cq_list.proofs.summed_blocks.pass_on.Given as goal

-- the runs ahead of this one are right
abbrev pub invariant-runs : goal.invariant-runs
invariant-runs l = ArePassing l.blocks.items l.fn.offset l.sums l.next
