-- Numbers in decimal digits.
use Rattle.std.specs.Prelude.{ℕ, ◌+◌, ◌==◌, if◌then◌else◌, List, [], ◌∷◌, map, Option, None, Some}
use Rattle.std.specs.Int.Digits.{digits_of}

-- the ASCII digits of a number, the greatest place first: without leading zeros, but that 0 is the digit 0
unfoldable pub decimal : ℕ → List ℕ
decimal n = map (λ d. 48 + d) (if n == 0 then 0 ∷ [] else digits_of 10 n)

-- a number in decimal digits, or `-` where there is none
abbrev pub field : Option ℕ → List ℕ
field None = 45 ∷ []
field (Some n) = decimal n
