-- The slack of a waiting cell (Chuang, Goel, McKeown and Prabhakar 1999): its output cushion less its input thread,
-- which is how many cells stand ahead of it in its input's list. Nothing is subtracted here: both sides stand in one
-- comparison.
use Rattle.std.specs.Prelude.{◌≡◌, ℕ, ◌+◌, ◌≤◌, ◌⊎◌, List, Option, Some, None, slice_get, slice_index_or}
use Rattle.cq_base.specs.declared.cell.Queued.{Queued}
use Rattle.cq_laws.specs.Fabric.{Fabric, input, cushion_of}

-- every waiting cell has slack n at least: n and its input thread are no more than its cushion
abbrev pub HasSlack : ℕ → Fabric → Type 0
HasSlack n f = (i thread : ℕ) (c : Queued) → slice_get (input f i) thread ≡ Some c → n + thread ≤ cushion_of f c

-- the cell waited at the same input before, and its slack has risen by n at least
pub record Rises (n : ℕ) (old new : Fabric) (i thread : ℕ) (c : Queued) : Type 0 where
  pub before : ℕ
  pub stood : slice_get (input old i) before ≡ Some c
  pub risen : n + cushion_of old c + thread ≤ cushion_of new c + before

-- the cell waited at the same input before, and its slack has fallen by n at most
pub record Falls (n : ℕ) (old new : Fabric) (i thread : ℕ) (c : Queued) : Type 0 where
  pub before : ℕ
  pub stood : slice_get (input old i) before ≡ Some c
  pub fallen : cushion_of old c + thread ≤ n + cushion_of new c + before

-- a cell arrived at the input, and its input thread is no more than its cushion: it has slack 0 at least
pub record ArrivesWithSlack (came : List (Option Queued)) (new : Fabric) (i thread : ℕ) (c : Queued) : Type 0 where
  pub arrived : slice_index_or came i None ≡ Some c
  pub within : thread ≤ cushion_of new c

-- the relation holds of each cell that waits, with its input and its input thread
abbrev pub EachWaiting : (ℕ → ℕ → Queued → Type 0) → Fabric → Type 0
EachWaiting R f = (i thread : ℕ) (c : Queued) → slice_get (input f i) thread ≡ Some c → R i thread c

-- the slack of each cell that still waits has risen by n at least
abbrev pub EachRises : ℕ → Fabric → Fabric → Type 0
EachRises n old new = EachWaiting (Rises n old new) new

-- the slack of each cell that still waits has fallen by n at most
abbrev pub EachFalls : ℕ → Fabric → Fabric → Type 0
EachFalls n old new = EachWaiting (Falls n old new) new

-- each cell that waits has arrived now with slack 0 at least, or the relation holds of it
abbrev pub EachArrivesOr : (ℕ → ℕ → Queued → Type 0) → List (Option Queued) → Fabric → Type 0
EachArrivesOr R came f = EachWaiting (λ i thread c. ArrivesWithSlack came f i thread c ⊎ R i thread c) f

-- each cell that waits has arrived now with slack 0 at least, or its slack has fallen by one at most
abbrev pub EachArrivesOrFalls : List (Option Queued) → Fabric → Fabric → Type 0
EachArrivesOrFalls came old new = EachArrivesOr (Falls 1 old new) came new
