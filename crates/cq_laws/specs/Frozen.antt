-- What clauses see of a fabric that stands still: its state with the marks, and what it is that a fabric can go on
-- from.
use Rattle.std.specs.Prelude.{◌≡◌, ℕ, ◌<◌, List, length, map, Option, [], ◌∷◌}
use Rattle.std.specs.List.{enumerate_from, filter_map, range_with_len}
use Rattle.std.specs.Option.{option_map}
use Rattle.cq_base.specs.declared.cell.Queued.{Queued}
use Rattle.cq_ideal.specs.Admission.{Marked}
use Rattle.cq_ideal.specs.declared.refused.Refused.{Refused}
use Rattle.cq_ideal.specs.IdealSlot.{IdealState}
use Rattle.cq_base.specs.Cells.{put}
use Rattle.cq_laws.specs.Fabric.{Fabric, IsAmong, IsFabric, ListsKeepOrder, buffer, input}
use Rattle.cq_laws.specs.Holding.{cells_for}
use Rattle.cq_laws.specs.Places.{NoKeyTwice, AllBefore}
use Rattle.cq_laws.specs.Slack.{HasSlack}
use Rattle.cq_laws.specs.declared.frozen.Frozen.{Frozen}

-- the fabric of a frozen state
abbrev pub fabric_in : Frozen → Fabric
fabric_in x = record { inputs = x.lists; buffers = x.buffers; ranks = x.ranks }

-- and its marks
abbrev pub marked_in : Frozen → Marked Fabric
marked_in x = record { state = fabric_in x; marks = x.marks }

-- ## What a fabric can go on from

-- each list and each buffer stands in order, each cell that waits at an input has slack 1 at least, no key is twice,
-- and every cell arrived before this slot
pub record IsSoundFabric (next : ℕ) (f : Fabric) : Type 0 where
  pub fabric : IsFabric f
  pub order : ListsKeepOrder f
  pub slack : HasSlack 1 f
  pub differ : NoKeyTwice f
  pub earlier : AllBefore next f

-- each cell is of one of so many inputs and classes, and the cells of a list and their keys are of its input. That
-- each is for one of the outputs, and those of a buffer for its output, a fabric's state says.
pub record AreOwn (ports classes : ℕ) (f : Fabric) : Type 0 where
  pub listed : (i : ℕ) (c : Queued) → IsAmong c (input f i) →
      (c.cell.id.input ≡ i) × (c.key.input ≡ i) × (c.cell.class < classes)
  pub buffered : (j : ℕ) (c : Queued) → IsAmong c (buffer f j) →
      (c.cell.id.input < ports) × (c.cell.class < classes)

-- there is one of each for each of so many ports
pub record HasPorts (ports : ℕ) (x : Frozen) : Type 0 where
  pub lists : length x.lists ≡ ports
  pub buffers : length x.buffers ≡ ports
  pub marks : length x.marks ≡ ports
  pub ranks : length x.ranks ≡ ports
  pub inputs : length x.figures.inputs ≡ ports
  pub outputs : length x.figures.outputs ≡ ports

-- the outputs that have a limit, with their limits, in order
abbrev pub limited : List (Option ℕ) → List (ℕ × ℕ)
limited limits = filter_map (λ at. option_map (λ limit. (at.0, limit)) at.1) (enumerate_from 0 limits)

-- there is one count of refused packets for each of them, in order
abbrev pub AreCountsOf : List (Option ℕ) → List Refused → Type 0
AreCountsOf limits refused = map (λ r. (r.output, r.limit)) refused ≡ limited limits

-- ## The ideal switch beside it

-- these cells in the order of their keys
abbrev pub in_order : List Queued → List Queued
in_order [] = []
in_order (c ∷ cells) = put c (in_order cells)

-- the state of the ideal switch that agrees with a fabric: per output all cells for it, in the order of their keys
unfoldable pub ideal_of : Fabric → IdealState
ideal_of f =
    record { lists = map (λ j. in_order (cells_for j f)) (range_with_len 0 (length f.inputs)); ranks = f.ranks }
