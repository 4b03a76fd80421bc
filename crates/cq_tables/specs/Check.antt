-- Checks of a document: each holds, or says what is wrong and where.
use Rattle.std.specs.Prelude.{◌≡◌, ℕ, suc, Bool, if◌then◌else◌, List, [], ◌∷◌, Option, None, Some, option_map}
use Rattle.cq_tables.specs.declared.refusal.Wrong.{Wrong}
use Rattle.cq_tables.specs.declared.refusal.Wrong.TheVariants.{NotToml, Missing, WrongType, OutOfRange, UnknownKey, DuplicateAddress, DuplicateFile, BadAddress, NoSuchPortOrClass, TooLong}
use Rattle.cq_tables.specs.declared.refusal.TableRefusal.{TableRefusal}
use Rattle.cq_tables.specs.declared.refusal.TableRefusal.TheVariants as refusal

-- the number of what is wrong
abbrev pub code_of : Wrong → ℕ
code_of NotToml = 1
code_of Missing = 2
code_of WrongType = 3
code_of OutOfRange = 4
code_of UnknownKey = 5
code_of DuplicateAddress = 6
code_of DuplicateFile = 7
code_of BadAddress = 8
code_of NoSuchPortOrClass = 9
code_of TooLong = 10

-- what a document is refused for: the number of what is wrong, and the path of the key where it stands
pub record Refused : Type 0 where
  pub code : ℕ
  pub path : List ℕ

-- a check: None where it holds
abbrev pub Check : Type 0
Check = Option Refused

-- nothing is wrong where the condition holds
abbrev pub unless : Bool → Wrong → Option Wrong
unless holds wrong = if holds then None else Some wrong

-- the first of two that is wrong
abbrev pub otherwise : {A : Type 0} → Option A → Option A → Option A
otherwise None second = second
otherwise (Some wrong) second = Some wrong

-- what is wrong, at its path
abbrev pub refused : List ℕ → Wrong → Refused
refused path wrong = record { code = code_of wrong; path = path }

-- the check of what may be wrong at a path
abbrev pub at : List ℕ → Option Wrong → Check
at path wrong = option_map (refused path) wrong

-- the first check of a list that does not hold
unfoldable pub first : List Check → Check
first [] = None
first (check ∷ checks) = otherwise check (first checks)

-- the checks of the elements of a list, each with its index, from this index on
unfoldable pub each : {A : Type 0} → (ℕ → A → Check) → ℕ → List A → List Check
each check i [] = []
each check i (x ∷ xs) = check i x ∷ each check (suc i) xs

-- the refusal is that of the check, unless memory ran out
abbrev pub Refuses : Check → TableRefusal → Type 0
Refuses check (refusal.At code path) = check ≡ Some (record { code = code; path = path })
Refuses check refusal.NoMemory = Unit {0}
