use Rattle.cq_report.proofs.Terms.{append_assoc, arith, input_line, rules}
use Rattle.cq_report.proofs.report.put_input.Goals as goal

pub returns : goal.returns
unfolding input_line
returns c = search (arith, rules, append_assoc)
