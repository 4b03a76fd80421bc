-- The calls of a file space that a test numbers.
use Rattle.std.specs.Prelude.{ℕ, ◌+◌, ◌-◌, ◌^◌, ◌<◌, ◌≤◌, ◌==◌, min, Bool, List, Option, IfSome}
use Rattle.std.specs.List.{list_any}

-- how many there were, the numbers of those that are set to fail, and how many bytes one moves at most
pub record Calls : Type 0 where
  pub made : ℕ
  pub failing : List ℕ
  pub most : Option ℕ

-- the next call has the number of one that is set to fail; the first has the number 0
abbrev pub next_fails : Calls → Bool
next_fails c = list_any (λ n. n == c.made) c.failing

-- one more was made; at the last number of a u64 it stays
abbrev pub one_more : Calls → Calls
one_more c = record c { made = min (c.made + 1) (2 ^ 64 - 1) }

-- one call may move so many bytes
abbrev pub IsShort : Calls → ℕ → Type 0
IsShort c n = IfSome c.most (λ most. n ≤ most)

-- at least one byte may be moved
abbrev pub MovesSome : Option ℕ → Type 0
MovesSome most = IfSome most (λ n. 0 < n)
