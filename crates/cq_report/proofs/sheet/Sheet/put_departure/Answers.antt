use Rattle.cq_report.proofs.Terms.{append_assoc, arith, rules}
use Rattle.cq_report.proofs.sheet.Sheet.put_departure.Goals as goal

pub returns : goal.returns
returns c = search (arith, rules, append_assoc)
