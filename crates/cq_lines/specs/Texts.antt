-- Texts of lines. A rule says which line may come at a place, and to what place it leads. So a text is known by how
-- its lines are spelled, the rule, where the first line comes, and where the text may end.
use Rattle.std.specs.Prelude.{◌≡◌, ◌≢◌, ℕ, ◌+◌, List, [], ◌∷◌, ◌++◌, length}
use Rattle.std.specs.List.{flat_map}

-- each of these lines comes where the one before it led
abbrev pub Leads : {P X : Type 0} → (P → X → P → Type 0) → P → List X → P → Type 0
Leads Rule p [] q = p ≡ q
Leads {P = P} Rule p (x ∷ xs) q = (m : P) × Rule p x m × Leads Rule m xs q

-- the text is these lines, as the rule allows them, and ends where it may
pub record IsText {P X : Type 0} (spelling : X → List ℕ) (Rule : P → X → P → Type 0) (start : P)
    (MayEnd : P → Type 0) (xs : List X) (text : List ℕ) : Type 0 where
  pub last : P
  pub allowed : Leads Rule start xs last
  pub ended : MayEnd last
  pub spelled : text ≡ flat_map spelling xs

-- line n of the text, from 1, is the first that is not allowed there: those before it are, and behind them stands no
-- line that may come, and no end that may be
pub record IsFirstFault {P X : Type 0} (spelling : X → List ℕ) (Rule : P → X → P → Type 0) (start : P)
    (MayEnd : P → Type 0) (text : List ℕ) (n : ℕ) : Type 0 where
  pub before : List X
  pub last : P
  pub rest : List ℕ
  pub number : n ≡ length before + 1
  pub allowed : Leads Rule start before last
  pub spelled : text ≡ flat_map spelling before ++ rest
  pub no_line : (x : X) (more : List ℕ) (q : P) → Rule last x q → rest ≢ spelling x ++ more
  pub no_end : rest ≡ [] → MayEnd last → ⊥

-- a text is read in one way at most, or refused at one line at most, and never both
pub record IsExact {P X : Type 0} (spelling : X → List ℕ) (Rule : P → X → P → Type 0) (start : P)
    (MayEnd : P → Type 0) : Type 0 where
  pub one_reading : (xs ys : List X) (text : List ℕ) → IsText spelling Rule start MayEnd xs text →
      IsText spelling Rule start MayEnd ys text → xs ≡ ys
  pub one_fault : (text : List ℕ) (m n : ℕ) → IsFirstFault spelling Rule start MayEnd text m →
      IsFirstFault spelling Rule start MayEnd text n → m ≡ n
  pub never_both : (xs : List X) (text : List ℕ) (n : ℕ) → IsText spelling Rule start MayEnd xs text →
      IsFirstFault spelling Rule start MayEnd text n → ⊥
