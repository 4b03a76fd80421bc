-- Only proofs use this.
-- The numbers below a thousand, as they stand in a line.
use Rattle.std.specs.Prelude.{◌≡◌, ℕ, ◌<◌, ◌≤◌, List, [], ◌∷◌, ◌++◌, length, take, slice_index_or}
use Rattle.cq_base.specs.Decimal.{decimal}
use Rattle.cq_report.specs.declared.numerals.Numeral.{Numeral}

-- the first bytes of a numeral, so many as it says, are the digits of the number and a blank behind them
pub record IsNumeral (n : ℕ) (r : Numeral) : Type 0 where
  pub text : take r.long (r.first ∷ r.second ∷ r.third ∷ r.fourth ∷ []) ≡ decimal n ++ 32 ∷ []
  pub most : r.long ≤ 4

-- the numeral of each number below a thousand, in order
pub record AreNumerals (rows : List Numeral) : Type 0 where
  pub long : length rows ≡ 1000
  pub each : (n : ℕ) (d : Numeral) → n < 1000 → IsNumeral n (slice_index_or rows n d)
