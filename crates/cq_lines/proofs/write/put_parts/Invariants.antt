use Rattle.cq_lines.proofs.Terms.{take}
use Rattle.cq_lines.proofs.Walk.{IsGathered}
use Rattle.cq_lines.proofs.write.put_parts.Given as goal

abbrev pub invariant-fields : goal.invariant-fields
invariant-fields l = IsGathered l.fn.text.items l.word l.text.items l.bytes l.end (take l.field-index l.fields)
