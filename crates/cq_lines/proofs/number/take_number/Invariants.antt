use Rattle.cq_lines.proofs.Terms.{◌≡◌, ◌++◌, length, decimal}
use Rattle.cq_lines.proofs.number.take_number.Given as goal

abbrev pub invariant-digits : goal.invariant-digits
invariant-digits l = l.text ≡ decimal l.number ++ l.rest

abbrev pub decreases-digits : goal.decreases-digits
decreases-digits l = length l.rest
