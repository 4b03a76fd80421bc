use Rattle.cq_report.proofs.Terms.{◌≡◌, ◌++◌, take, numbered_lines, output_line}
use Rattle.cq_report.proofs.report.put_outputs.Given as goal

abbrev pub invariant-outputs : goal.invariant-outputs
invariant-outputs l = l.text.items ≡ l.fn.text.items ++ numbered_lines (output_line l.slots) 0 (take l.number l.outputs)
