-- Where two texts first differ.
use Rattle.std.specs.Prelude.{◌≡◌, ◌≢◌, ℕ, ◌+◌, ◌==◌, if◌then◌else◌, List, [], ◌∷◌, ◌++◌}

-- how many line feeds there are
abbrev pub feeds : List ℕ → ℕ
feeds [] = 0
feeds (c ∷ text) = (if c == 10 then 1 else 0) + feeds text

-- line n, from 1, is the first in which they differ: both begin with the same n - 1 lines and the same part of line n;
-- behind it they have no byte in common, and one of them goes on
pub record DiffersFirst (a b : List ℕ) (n : ℕ) : Type 0 where
  pub front : List ℕ
  pub left : List ℕ
  pub right : List ℕ
  pub left_is : a ≡ front ++ left
  pub right_is : b ≡ front ++ right
  pub parted : (c : ℕ) (x y : List ℕ) → left ≡ c ∷ x → right ≡ c ∷ y → ⊥
  pub goes_on : (left ≡ []) × (right ≡ []) → ⊥
  pub number : n ≡ feeds front + 1

-- texts that are equal differ in no line, and others in one line first
pub record IsTraceExact : Type 0 where
  pub some_line : (a b : List ℕ) → a ≢ b → (n : ℕ) × DiffersFirst a b n
  pub differ : (a b : List ℕ) (n : ℕ) → DiffersFirst a b n → a ≢ b
  pub one_line : (a b : List ℕ) (m n : ℕ) → DiffersFirst a b m → DiffersFirst a b n → m ≡ n
