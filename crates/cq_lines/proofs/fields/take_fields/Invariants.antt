use Rattle.cq_lines.proofs.Terms.{length}
use Rattle.cq_lines.proofs.Walk.{ReadSoFar}
use Rattle.cq_lines.proofs.fields.take_fields.Given as goal

abbrev pub invariant-fields : goal.invariant-fields
invariant-fields l = ReadSoFar l.text l.to l.count l.rest

abbrev pub decreases-fields : goal.decreases-fields
decreases-fields l = length l.rest
