use Rattle.cq_list.proofs.Terms.{rules, arith, ◌-◌}
use Rattle.cq_list.proofs.Runs.{gives, settled, still_read, takes, taking_on}
use Rattle.cq_list.proofs.summed_blocks.take_on.Goals as goal

pub add-requires : goal.add-requires
add-requires c =
    search (arith, rules, takes c.runs.invariant (c.runs.next - 1) (omega arith) c.index-sums-next.is)

pub subtract-requires : goal.subtract-requires
subtract-requires c = search (arith, rules, gives c.runs.invariant c.runs.next, still_read)

pub runs-preserved : goal.runs-preserved
runs-preserved c =
    let more = rw (← c.index-sums-next.is) at c.add.ensures in
    let less = rw (← c.index-sums-next-in-runs.is) at c.subtract.ensures in
    taking_on c.runs.invariant (omega arith) (omega arith) (λ k ne. omega arith) c.index-sums-next.is
    c.index-sums-next-in-runs.is _ (omega arith) c.index-last.ensures (omega arith) (omega arith) more less

pub returns : goal.returns
returns c = settled c.runs.invariant (λ k le short. omega arith) (λ k le short. omega arith)
