-- Only proofs use this.
-- Cells that go straight through a fabric in which none waits: each crosses in the first phase, and is sent at once.
use Rattle.std.specs.Prelude.{◌≡◌, ℕ, ◌+◌, ◌<◌, All, List, [], length, max, Option, None, Some}
use Rattle.std.specs.List.{filter_map, range_with_len}
use Rattle.std.specs.Option.{option_map}
use Rattle.cq_base.specs.declared.cell.Queued.{Queued}
use Rattle.cq_base.specs.declared.cell.Transfer.{Transfer}
use Rattle.cq_base.specs.declared.figures.InputFigures.{InputFigures}
use Rattle.cq_laws.specs.Phases.{came_to}
use Rattle.cq_fabric.specs.Queues.{Queues}

-- the cell came to one of the first inputs, for output j
pub record CameFor (inputs : ℕ) (came : List (Option Queued)) (j : ℕ) (c : Queued) : Type 0 where
  pub input : ℕ
  pub inside : input < inputs
  pub at : came_to came input ≡ Some c
  pub output : c.cell.output ≡ j

-- of so many outputs each sends the cell that came for it to one of the first inputs, if one did: so no two of these
-- cells are for one output
pub record AreSent (inputs outputs : ℕ) (came gone : List (Option Queued)) : Type 0 where
  pub each : (i : ℕ) (c : Queued) → i < inputs → came_to came i ≡ Some c → came_to gone c.cell.output ≡ Some c
  pub only : (j : ℕ) (c : Queued) → j < outputs → came_to gone j ≡ Some c → CameFor inputs came j c

-- no two of the cells that came to the first inputs are for one output
abbrev pub AreApart : ℕ → List (Option Queued) → Type 0
AreApart inputs came =
    (i k : ℕ) (c d : Queued) → i < inputs → k < inputs → came_to came i ≡ Some c → came_to came k ≡ Some d →
    c.cell.output ≡ d.cell.output → i ≡ k

-- no cell waits, and no two that came are for one output
pub record CanGoStraight (q : Queues) (came : List (Option Queued)) : Type 0 where
  pub lists : All (λ cells. cells ≡ []) q.inputs
  pub buffers : All (λ cells. cells ≡ []) q.buffers
  pub apart : AreApart (length q.inputs) came

-- no cell waits, and each cell that came is sent by its output
pub record GoStraight (q : Queues) (came gone : List (Option Queued)) : Type 0 where
  pub lists : All (λ cells. cells ≡ []) q.inputs
  pub buffers : All (λ cells. cells ≡ []) q.buffers
  pub ports : length gone ≡ length q.inputs
  pub sent : AreSent (length q.inputs) (length q.inputs) came gone

-- what is noted of an input to which this cell came
abbrev pub crossing : ℕ → ℕ → Option Queued → Option Transfer
crossing slot input came =
    option_map
    (λ c. record { slot = slot; phase = 1; input = input; output = c.cell.output; id = c.cell.id }) came

-- what is noted of so many inputs, in their order
unfoldable pub crossings : ℕ → ℕ → List (Option Queued) → List Transfer
crossings slot inputs came = filter_map (λ i. crossing slot i (came_to came i)) (range_with_len 0 inputs)

-- the figures of an input to which this cell came: it stood alone in its list, before a buffer without cells
abbrev pub input_passed : Option Queued → InputFigures → InputFigures
input_passed None x = x
input_passed (Some c) x = record { cells = x.cells + 1; longest = max x.longest 1; slack = Some 0 }
