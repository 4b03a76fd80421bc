use Rattle.cq_state.proofs.Terms.{length}
use Rattle.cq_state.proofs.Reading.{ReadSoFar}
use Rattle.cq_state.proofs.read.read_text.Given as goal

abbrev pub invariant-lines : goal.invariant-lines
invariant-lines l = ReadSoFar l.text l.told l.line l.place l.rest

abbrev pub decreases-lines : goal.decreases-lines
decreases-lines l = length l.rest
