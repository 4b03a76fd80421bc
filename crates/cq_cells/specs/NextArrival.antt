-- The next slot in which a cell arrives.
use Rattle.std.specs.Prelude.{◌≡◌, ◌⊎◌, ℕ, ◌<◌, ◌≤◌, List, [], ◌∷◌, Option, None, Some}
use Rattle.std.specs.List.{AllByRecursion}
use Rattle.cq_base.specs.Arriving.{Arrival}

-- a cell arrives in the slot
abbrev pub ArrivesIn : ℕ → List Arrival → Type 0
ArrivesIn slot [] = ⊥
ArrivesIn slot (a ∷ came) = (a.slot ≡ slot) ⊎ ArrivesIn slot came

-- of the cells that arrive at or after `from`, the first arrive in this slot
pub record IsFirstFrom (came : List Arrival) (from slot : ℕ) : Type 0 where
  pub late : from ≤ slot
  pub arrives : ArrivesIn slot came
  pub none_before : AllByRecursion (λ a. from ≤ a.slot → slot ≤ a.slot) came

-- the least slot at or after `from` in which a cell arrives; none only where every cell arrives before that
abbrev pub IsNextArrival : List Arrival → ℕ → Option ℕ → Type 0
IsNextArrival came from None = AllByRecursion (λ a. a.slot < from) came
IsNextArrival came from (Some slot) = IsFirstFrom came from slot
