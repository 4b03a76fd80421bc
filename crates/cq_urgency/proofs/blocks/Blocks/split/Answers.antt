use Rattle.cq_urgency.proofs.Terms.{length-set, arith, rules}
use Rattle.cq_urgency.proofs.Placed.{kept, as_many, as_many_counts, split, count_split}
use Rattle.cq_urgency.proofs.blocks.Blocks.split.Goals as goal

pub invariant_of-self : goal.invariant_of-self
invariant_of-self c =
    let w = kept c.self.invariant.0 c.self.view_is in
    let order = rw c.unwrap.ensures at c.insert.ensures.items in
    let counts = rw c.set_count.ensures.counts at (rw c.unwrap-2.ensures at c.insert-2.ensures.items) in
    let counted = count_split c.args.self.now.blocks c.args.block _ counts (as_many_counts w) c.requires.full in
    let k = split w c.put_half-other.ensures.comes c.number_at-number.ensures c.requires.block order counted in
    search (arith, rules, k, order, as_many w, length-set)

pub returns-clause-blocks : goal.returns-clause-blocks
returns-clause-blocks c =
    let w = kept c.self.invariant.0 c.self.view_is in
    let order = rw c.unwrap.ensures at c.insert.ensures.items in
    let counts = rw c.set_count.ensures.counts at (rw c.unwrap-2.ensures at c.insert-2.ensures.items) in
    let counted = count_split c.args.self.now.blocks c.args.block _ counts (as_many_counts w) c.requires.full in
    let k = split w c.put_half-other.ensures.comes c.number_at-number.ensures c.requires.block order counted in
    k.seen
