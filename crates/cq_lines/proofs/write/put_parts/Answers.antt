use Rattle.cq_lines.proofs.Terms.{append-nil, append_assoc, arith, common_steps, take_all, take_more_set}
use Rattle.cq_lines.proofs.Walk.{ending_begun}
use Rattle.cq_lines.proofs.write.put_parts.Goals as goal

pub returns-clause-line : goal.returns-clause-line
returns-clause-line c = grind (arith, common_steps, take_more_set, ending_begun, append_assoc, append-nil, take_all)
