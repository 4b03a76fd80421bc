use Rattle.cq_ideal.proofs.Terms.{rules, arith, ◌+◌, ◌-◌, length, option_to_list, drop_more}
use Rattle.cq_ideal.proofs.Counting.{all_counted_both, counts_fit}
use Rattle.cq_ideal.proofs.Came.{from_input}
use Rattle.cq_ideal.proofs.limiter.Limiter.count.Goals as goal

pub inputs-preserved : goal.inputs-preserved
inputs-preserved c =
    let cells = option_to_list c.refused_at-cell.result in
    let left = counts_fit cells (length c.args.self.now.limits - (c.inputs.input + 1)) 1 c.inputs.self.refused in
    search (arith, rules, drop_more, from_input, all_counted_both cells, left)
