use Rattle.cq_report.proofs.Terms.{arith, rules, append_assoc, report_of, report_with}
use Rattle.cq_report.proofs.report.report_text.Goals as goal

pub returns : goal.returns
unfolding report_of report_with
returns c = search (arith, rules, append_assoc)
