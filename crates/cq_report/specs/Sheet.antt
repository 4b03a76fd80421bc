-- Only proofs use this.
-- The numbers of a line.
use Rattle.std.specs.Prelude.{◌≡◌, ℕ, ◌+◌, ◌≤◌, List, [], ◌∷◌, ◌++◌, length, take}
use Rattle.cq_base.specs.Decimal.{decimal}

-- From a place on stand the digits of a number and a blank, up to the place behind that. What stands before stays.
pub record IsPut (number at : ℕ) (old new : List ℕ) (behind : ℕ) : Type 0 where
  pub text : take behind new ≡ take at old ++ (decimal number ++ 32 ∷ [])
  pub some : at + 2 ≤ behind
  pub most : behind ≤ at + 21
  pub long : length new ≡ 4096
