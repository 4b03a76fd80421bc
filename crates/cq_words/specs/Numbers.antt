-- The numbers in words: 1 to 20 decimal digits, in ASCII.
use Rattle.std.specs.Prelude.{ℕ, Bool, ◌&&◌, ◌+◌, ◌-◌, ◌*◌, ◌^◌, List, [], ◌∷◌, length, nat_le, Option, Some, None, if◌then◌else◌}
use Rattle.std.specs.List.{list_all}
use Rattle.std.specs.Char.{is_ascii_digit}

-- a text of 1 to 20 digits, which may begin with zeros
abbrev pub is_numeral : List ℕ → Bool
is_numeral text = nat_le 1 (length text) && (nat_le (length text) 20 && list_all is_ascii_digit text)

-- the number that digits write: each counts as often as its place says, and the digit 0 is the byte 48
unfoldable pub value_of : List ℕ → ℕ
value_of [] = 0
value_of (digit ∷ rest) = (digit - 48) * 10 ^ length rest + value_of rest

-- the number that a text writes, where it is a numeral with a value from `least` to `most`
abbrev pub number_from : ℕ → ℕ → List ℕ → Option ℕ
number_from least most text =
    if is_numeral text && (nat_le least (value_of text) && nat_le (value_of text) most) then Some (value_of text)
    else None
