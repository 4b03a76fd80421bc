use Rattle.cq_urgency.proofs.Terms.{◌-◌, arith, take_all, rules}
use Rattle.cq_urgency.proofs.Placed.{kept, as_many_counts, counts_ahead, counts_all}
use Rattle.cq_urgency.proofs.blocks.Blocks.ahead.Goals as goal

pub returns-then-place-len : goal.returns-then-place-len
returns-then-place-len c =
    let counts = as_many_counts (kept c.self.invariant.0 c.self.view_is) in
    let sum = counts_ahead c.args.self.now.blocks _ (c.args.place - 1) c.args.place counts in
    search (arith, rules, counts_all, counts, sum, take_all)
