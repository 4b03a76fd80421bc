use Rattle.cq_base.proofs.Terms.{◌≡◌, ◌++◌, length, drop}
use Rattle.cq_base.specs.Decimal.{decimal}
use Rattle.cq_base.proofs.number.short_digits.Given as goal

-- the digits of what is left would stand before those that are written
abbrev pub invariant-places : goal.invariant-places
invariant-places l = (length l.to ≡ 39) × (length (decimal l.left) ≡ l.end) ×
    (decimal l.left ++ drop l.end l.to ≡ decimal l.n ++ drop l.count l.fn.to)

abbrev pub decreases-places : goal.decreases-places
decreases-places l = l.left
