use Rattle.cq_list.proofs.Terms.{rules, arith, ◌-◌}
use Rattle.cq_list.proofs.Runs.{gives, passing_on, settled, still_read, takes}
use Rattle.cq_list.proofs.summed_blocks.pass_on.Goals as goal

pub subtract-requires : goal.subtract-requires
subtract-requires c =
    search (arith, rules, gives c.runs.invariant (c.runs.next - 1) (omega arith) c.index-sums-next.is)

pub add-requires : goal.add-requires
add-requires c = search (arith, rules, takes c.runs.invariant c.runs.next, still_read)

pub runs-preserved : goal.runs-preserved
runs-preserved c =
    let less = rw (← c.index-sums-next.is) at c.subtract.ensures in
    let more = rw (← c.index-sums-next-in-runs.is) at c.add.ensures in
    passing_on c.runs.invariant (omega arith) (omega arith) (λ k ne. omega arith) c.index-sums-next.is
    c.index-sums-next-in-runs.is _ (omega arith) c.index-first.ensures (omega arith) (omega arith) less more

pub returns : goal.returns
returns c = settled c.runs.invariant (λ k le short. omega arith) (λ k le short. omega arith)
