-- When a count of faults lets a call answer a fault.
use Rattle.std.specs.Prelude.{◌≡◌, ℕ, ◌+◌, ◌-◌, ◌^◌, ◌≤◌, min, Result, OnOk, OnErr}

-- the count is greater than before, or stands at the end of a u64
abbrev pub Rose : ℕ → ℕ → Type 0
Rose before now = min (before + 1) (2 ^ 64 - 1) ≤ now

-- one more was counted; at the end of a u64 the count stays
abbrev pub IsRaised : ℕ → ℕ → Type 0
IsRaised before now = now ≡ min (before + 1) (2 ^ 64 - 1)

-- a call that failed has raised the count, and one that did not has left it
pub record HasCause {T E : Type 0} (before now : ℕ) (result : Result T E) : Type 0 where
  pub later : before ≤ now
  pub uncounted : OnOk result (now ≡ before)
  pub failed : OnErr result (Rose before now)
