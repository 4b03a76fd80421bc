-- The ranges of a line's fields.
use Rattle.std.specs.Prelude.{ℕ, ◌+◌, ◌<◌, ◌≤◌, ◌-◌, ◌^◌, List, length, get_or, Option, None, Some, IsTrue, false}
use Rattle.cq_lines.specs.declared.range.Range.{Range}

-- the field is a number of 128 bits within the range, or `-` where that may be
abbrev pub InRange : Range → Option ℕ → Type 0
InRange r None = IsTrue r.or_none
InRange r (Some n) = (r.least ≤ n) × (n ≤ r.most) × (n < 2 ^ 128)

-- any number of 128 bits
abbrev pub any_number : Range
any_number = record { least = 0; most = 2 ^ 128 - 1; or_none = false }

-- a field for each range, and so many further numbers at most
pub record Within (ranges : List Range) (further : ℕ) (fs : List (Option ℕ)) : Type 0 where
  pub enough : length ranges ≤ length fs
  pub few : length fs ≤ length ranges + further
  pub each : (i : ℕ) → i < length fs → InRange (get_or ranges i any_number) (get_or fs i None)
