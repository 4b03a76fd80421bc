-- Where the cells of a fabric stand, and what is the same wherever they stand.
use Rattle.std.specs.Prelude.{◌≡◌, false, ℕ, ◌<◌, ◌⊎◌, Option, Some, slice_get}
use Rattle.cq_base.specs.declared.cell.Queued.{Queued}
use Rattle.cq_base.specs.Key.{is_before}
use Rattle.cq_laws.specs.Fabric.{Fabric, input, buffer, IsAmong}

-- a cell waits at an input with so many cells ahead of it, its input thread, or has crossed to an output
pub data Place : Type 0 where
  Waiting : (input thread : ℕ) → Place
  Crossed : (output ahead : ℕ) → Place

-- the cell that stands there, if one does
abbrev pub cell_at : Fabric → Place → Option Queued
cell_at f (Waiting i thread) = slice_get (input f i) thread
cell_at f (Crossed j ahead) = slice_get (buffer f j) ahead

-- no two cells have the same key: two places with one key are one place
abbrev pub NoKeyTwice : Fabric → Type 0
NoKeyTwice f = (p q : Place) (c d : Queued) → cell_at f p ≡ Some c → cell_at f q ≡ Some d → c.key ≡ d.key → p ≡ q

-- every cell arrived before this slot
abbrev pub AllBefore : ℕ → Fabric → Type 0
AllBefore slot f = (p : Place) (c : Queued) → cell_at f p ≡ Some c → c.key.slot < slot

-- a cell for output j, at an input or in the output's buffer
abbrev pub HasFor : Fabric → ℕ → Queued → Type 0
HasFor f j c = ((i : ℕ) × IsAmong c (input f i) × (c.cell.output ≡ j)) ⊎ IsAmong c (buffer f j)

-- the most urgent cell for output j
pub record IsMostUrgentFor (f : Fabric) (j : ℕ) (c : Queued) : Type 0 where
  pub there : HasFor f j c
  pub least : (d : Queued) → HasFor f j d → is_before d.key c.key ≡ false
