-- Where a fake in memory is set to fail: at so many bytes.
use Rattle.std.specs.Prelude.{ℕ, ◌+◌, ◌<◌, ◌≤◌, Option, IfSome, IsSomeAnd}

-- the bytes that have moved are at the cut, or past it
abbrev pub IsReached : Option ℕ → ℕ → Type 0
IsReached cut moved = IsSomeAnd cut (λ after. after ≤ moved)

-- the cut is not reached yet, and n more bytes do not go past it
abbrev pub StaysBefore : Option ℕ → ℕ → ℕ → Type 0
StaysBefore cut moved n = IfSome cut (λ after. (moved < after) × (moved + n ≤ after))
