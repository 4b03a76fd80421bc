use Rattle.cq_report.proofs.Terms.{◌≡◌, ◌++◌, take, numbered_lines, input_line}
use Rattle.cq_report.proofs.report.put_inputs.Given as goal

abbrev pub invariant-inputs : goal.invariant-inputs
invariant-inputs l = l.text.items ≡ l.fn.text.items ++ numbered_lines input_line 0 (take l.number l.inputs)
