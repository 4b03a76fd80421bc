use Rattle.cq_lines.proofs.Terms.{arith, rules}
use Rattle.cq_lines.proofs.Walk.{one_ending, within_fits}
use Rattle.cq_lines.proofs.range.take_fields_within.Goals as goal

pub returns-in_err-count-clause-none : goal.returns-in_err-count-clause-none
returns-in_err-count-clause-none c =
    let fits = within_fits c.args.ranges.now c.args.further in
    rw c.from_residual.ensures (search (arith, rules, c.in_err-count.ensures.none, fits))

pub returns-else-are_within-clause-none : goal.returns-else-are_within-clause-none
returns-else-are_within-clause-none c fs rest within e = search (arith, rules, one_ending)
