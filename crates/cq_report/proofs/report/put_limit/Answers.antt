use Rattle.cq_report.proofs.Terms.{append_assoc, arith, limit_line, rules}
use Rattle.cq_report.proofs.report.put_limit.Goals as goal

pub returns : goal.returns
unfolding limit_line
returns c = search (arith, rules, append_assoc)
