-- What clauses see of a limiter: of what refuses packets where outputs have limits.
use Rattle.std.specs.Prelude.{◌≡◌, ℕ, ◌+◌, ◌-◌, ◌<◌, ◌^◌, List, length, map, All, Bool, true, false, Option, Some, None, slice_set, slice_index_or}
use Rattle.cq_base.specs.declared.cell.Cell.{Cell}
use Rattle.cq_base.specs.declared.cell.Queued.{Queued}
use Rattle.cq_base.specs.Arrivals.{arrival_at}
use Rattle.cq_ideal.specs.declared.refused.Refused.{Refused}

-- per output its limit, if it has one, and how many cells it holds; per input its mark; and what was refused so far
pub record LimiterView : Type 0 where
  pub limits : List (Option ℕ)
  pub held : List ℕ
  pub marks : List Bool
  pub refused : List Refused

-- there is a number of cells for each output, and a mark for each input
pub record HasPorts (limiter : LimiterView) : Type 0 where
  pub held : length limiter.held ≡ length limiter.limits
  pub marks : length limiter.marks ≡ length limiter.limits

-- each cell comes to one of so many ports, for one of them
pub record ComeToPorts (ports : ℕ) (cells : List (Option Cell)) : Type 0 where
  pub inputs : (input : ℕ) (cell : Cell) → arrival_at cells input ≡ Some cell → input < ports
  pub outputs : (input : ℕ) (cell : Cell) → arrival_at cells input ≡ Some cell → cell.output < ports

-- the cell that arrives where a mark is up
abbrev pub where_up : Bool → Option Cell → Option Cell
where_up true cell = cell
where_up false cell = None

-- how many cells each output holds after output j sent this cell, or none
abbrev pub held_without : Option Queued → ℕ → List ℕ → List ℕ
held_without None j held = held
held_without (Some q) j held = slice_set held j (slice_index_or held j 0 - 1)

-- the counts of refused packets and cells stay below 2^64 in a slot of so many ports
abbrev pub CanCount : ℕ → List Refused → Type 0
CanCount ports counts = All (λ r. (r.packets + ports < 2 ^ 64) × (r.cells + ports < 2 ^ 64)) counts

-- it will judge by the same limits and the same marks, and has refused as much
pub record JudgesAsBefore (old new : LimiterView) : Type 0 where
  pub marks : new.marks ≡ old.marks
  pub refused : new.refused ≡ old.refused
  pub limits : new.limits ≡ old.limits

-- the outputs hold the cells of these lists
pub record HoldsLists (lists : List (List Queued)) (limiter : LimiterView) : Type 0 where
  pub ports : length limiter.limits ≡ length lists
  pub held : limiter.held ≡ map length lists
