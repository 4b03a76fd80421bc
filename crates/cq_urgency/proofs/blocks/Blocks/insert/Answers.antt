use Rattle.cq_urgency.proofs.Terms.{arith, rules, length-set}
use Rattle.cq_urgency.proofs.Placed.{kept, as_many_counts, in_pool, read_is, changed, count_set}
use Rattle.cq_urgency.proofs.blocks.Blocks.insert.Goals as goal

pub index_mut-cells-requires : goal.index_mut-cells-requires
index_mut-cells-requires c =
    let w = kept c.self.invariant.0 c.self.view_is in
    let there = in_pool w c.number_at-number.ensures c.requires.block in omega arith

pub insert-requires-clause-room : goal.insert-requires-clause-room
insert-requires-clause-room c =
    let w = kept c.self.invariant.0 c.self.view_is in search (arith, rules, read_is w)

pub invariant_of-self : goal.invariant_of-self
invariant_of-self c =
    let w = kept c.self.invariant.0 c.self.view_is in
    let counted = count_set c.args.self.now.blocks c.insert.new.self c.args.block _ c.set_count.ensures.counts
    c.len-count.ensures.len (as_many_counts w) c.requires.block in
    let k = changed w c.number_at-number.ensures c.requires.block c.insert.new.self _ counted in
    search (arith, rules, k, length-set)

pub returns-clause-blocks : goal.returns-clause-blocks
returns-clause-blocks c =
    let w = kept c.self.invariant.0 c.self.view_is in search (arith, rules, changed w, read_is w)
