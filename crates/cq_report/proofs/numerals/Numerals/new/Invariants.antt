use Rattle.cq_report.proofs.Terms.{◌≡◌, ℕ, ◌<◌, length, slice_index_or}
use Rattle.cq_report.specs.Numerals.{IsNumeral}
use Rattle.cq_report.specs.declared.numerals.Numeral.{Numeral}
use Rattle.cq_report.proofs.numerals.Numerals.new.Given as goal

-- the numbers below this one have their numerals
abbrev pub invariant-numbers : goal.invariant-numbers
invariant-numbers l =
    (length l.rows ≡ 1000) × ((k : ℕ) (d : Numeral) → k < l.number → IsNumeral k (slice_index_or l.rows k d))
