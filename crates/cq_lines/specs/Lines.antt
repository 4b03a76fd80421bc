-- Lines of numbers: a word, then fields, each behind one blank, and one line feed.
use Rattle.std.specs.Prelude.{◌≡◌, ℕ, ◌^◌, ◌<◌, List, [], ◌∷◌, ◌++◌, Option, None, Some, IfSome, ⊤}
use Rattle.std.specs.Int.{IsInRange}
use Rattle.std.specs.List.{AllByRecursion}
use Rattle.cq_base.specs.Decimal.{field}

-- fields, each behind one blank, and a line feed behind them
abbrev pub ending : List (Option ℕ) → List ℕ
ending [] = 10 ∷ []
ending (f ∷ fs) = 32 ∷ field f ++ ending fs

-- a line: its word, and its fields
abbrev pub line : List ℕ → List (Option ℕ) → List ℕ
line word fs = word ++ ending fs

-- these bytes do not go on with a digit
abbrev pub EndsDigits : List ℕ → Type 0
EndsDigits [] = ⊤
EndsDigits (c ∷ cs) = IsInRange 48 57 c → ⊥

-- what may stand behind a field: behind a number no digit
abbrev pub MayFollow : Option ℕ → List ℕ → Type 0
MayFollow None rest = ⊤
MayFollow (Some n) rest = EndsDigits rest

-- the text begins with this field, and this stands behind it
pub record BeginsWith (text : List ℕ) (f : Option ℕ) (rest : List ℕ) : Type 0 where
  pub spelled : text ≡ field f ++ rest
  pub ended : MayFollow f rest

-- what 128 bits hold
abbrev pub Fits : Option ℕ → Type 0
Fits f = IfSome f (λ n. n < 2 ^ 128)

-- 128 bits hold each of these fields
abbrev pub AllFit : List (Option ℕ) → Type 0
AllFit fs = AllByRecursion Fits fs
