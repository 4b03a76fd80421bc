-- Stretches of slots in which no cell arrives.
use Rattle.std.specs.Prelude.{◌≡◌, ℕ, ◌<◌, ◌≤◌, List}
use Rattle.cq_base.specs.Arrivals.{no_arrivals}
use Rattle.cq_base.specs.Arriving.{Arrival, arriving, end_of}
use Rattle.cq_cells.specs.NextArrival.{IsFirstFrom}

-- no cell arrives from this slot on up to the other
abbrev pub NoneCome : List Arrival → ℕ → ℕ → Type 0
NoneCome came slot next = (t : ℕ) → slot ≤ t → t < next → arriving came t ≡ no_arrivals

-- none does; and if the other slot is later, there are cells still to come
pub record IsQuiet (came : List Arrival) (slot next : ℕ) : Type 0 where
  pub late : slot ≤ next
  pub none : NoneCome came slot next
  pub more : slot < next → next < end_of came

-- the other slot is that of the next arrival, at or after this one; and it is this one where no cell arrives any more
pub record IsQuietUntil (came : List Arrival) (slot next : ℕ) : Type 0 where
  pub first : slot < end_of came → IsFirstFrom came slot next
  pub over : end_of came ≤ slot → next ≡ slot
