use Rattle.cq_lines.proofs.Terms.{ℕ, ◌<◌, get_or, None, InRange, any_number}
use Rattle.cq_lines.proofs.range.are_within.Given as goal

abbrev pub invariant-fields : goal.invariant-fields
invariant-fields l = (i : ℕ) → i < l.place → InRange (get_or l.ranges i any_number) (get_or l.fields i None)
