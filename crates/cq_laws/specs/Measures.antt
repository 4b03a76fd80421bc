-- The figures of a run, read off all its records, and how the record of one more slot changes them.
use Rattle.std.specs.Prelude.{◌≡◌, ℕ, ◌+◌, ◌-◌, ◌<◌, ◌==◌, min, max, Bool, if◌then◌else◌, List, [], ◌∷◌, length, map, filter, fold, sum, count_by, Option, Some, None, is_some, option_and_then, slice_get, slice_index_or, replicate}
use Rattle.std.specs.List.{range_with_len, enumerate_from, flat_map, filter_map, list_any, reduce, position_or_len}
use Rattle.std.specs.Option.{option_map}
use Rattle.cq_base.specs.declared.cell.Queued.{Queued}
use Rattle.cq_base.specs.declared.figures.InputFigures.{InputFigures}
use Rattle.cq_base.specs.declared.figures.OutputFigures.{OutputFigures}
use Rattle.cq_base.specs.declared.figures.Figures.{Figures}
use Rattle.cq_prefs.specs.FirstCells.{orders_of}
use Rattle.cq_prefs.specs.Pairing.{proposals}
use Rattle.cq_laws.specs.Fabric.{Fabric, input, cushion_of}
use Rattle.cq_laws.specs.Phases.{came_to}
use Rattle.cq_laws.specs.FabricSlot.{SlotRecord}

-- ## What one record says

-- the slack of each cell that waits at input i, from the first on. After arrivals no input thread exceeds its
-- cushion, so that nothing is cut off here
unfoldable pub slacks : Fabric → ℕ → List ℕ
slacks f i = map (λ at. cushion_of f at.1 - at.0) (enumerate_from 0 (input f i))

-- the cell that output j sent, if it sent one
abbrev pub sent_by : SlotRecord → ℕ → Option Queued
sent_by r j = slice_index_or r.gone j None

-- how many slots the cell that output j sent had waited
abbrev pub wait_at : ℕ → SlotRecord → Option ℕ
wait_at j r = option_map (λ q. r.slot - q.key.slot) (sent_by r j)

-- whether an output sent a cell
abbrev pub sends : SlotRecord → Bool
sends r = list_any is_some r.gone

-- the proposals of the two phases
unfoldable pub proposals_in : SlotRecord → List ℕ
proposals_in r = proposals (orders_of r.arrived.inputs) r.first ∷ proposals (orders_of r.sent.inputs) r.second ∷ []

-- ## What all records say

-- how many cells came, the greatest length of the list and the least slack in it, both after the arrivals of a slot
unfoldable pub input_figures : List SlotRecord → ℕ → InputFigures
input_figures rs i =
    record {
      cells = count_by (λ r. is_some (came_to r.came i)) rs;
      longest = fold max 0 (map (λ r. length (input r.arrived i)) rs);
      slack = reduce min (flat_map (λ r. slacks r.arrived i) rs);
    }

-- how many cells were sent, and the greatest wait of one
unfoldable pub output_figures : List SlotRecord → ℕ → OutputFigures
output_figures rs j =
    record {
      cells = count_by (λ r. is_some (sent_by r j)) rs;
      wait = reduce max (filter_map (wait_at j) rs);
    }

-- the figures of a run over so many ports
unfoldable pub figures_of : ℕ → List SlotRecord → Figures
figures_of ports rs =
    record {
      slots = fold max 0 (map (λ r. r.slot + 1) (filter sends rs));
      proposals = sum (flat_map proposals_in rs);
      most = fold max 0 (flat_map proposals_in rs);
      inputs = map (input_figures rs) (range_with_len 0 ports);
      outputs = map (output_figures rs) (range_with_len 0 ports);
    }

-- ## What one record more changes

-- the figure of two, of which each may be none
abbrev pub either_by : (ℕ → ℕ → ℕ) → Option ℕ → Option ℕ → Option ℕ
either_by f None b = b
either_by f (Some a) None = Some a
either_by f (Some a) (Some b) = Some (f a b)

-- the figures of input i with one record more
unfoldable pub input_after : SlotRecord → ℕ → InputFigures → InputFigures
input_after r i x =
    record {
      cells = x.cells + (if is_some (came_to r.came i) then 1 else 0);
      longest = max x.longest (length (input r.arrived i));
      slack = either_by min x.slack (reduce min (slacks r.arrived i));
    }

-- the figures of output j with one record more
unfoldable pub output_after : SlotRecord → ℕ → OutputFigures → OutputFigures
output_after r j x =
    record {
      cells = x.cells + (if is_some (sent_by r j) then 1 else 0);
      wait = either_by max x.wait (wait_at j r);
    }

-- what is counted is added, of the slacks the lesser is kept, and of all else the greater
unfoldable pub figures_after : Figures → SlotRecord → Figures
figures_after x r =
    record {
      slots = if sends r then max x.slots (r.slot + 1) else x.slots;
      proposals = x.proposals + sum (proposals_in r);
      most = max x.most (fold max 0 (proposals_in r));
      inputs = map (λ at. input_after r at.0 at.1) (enumerate_from 0 x.inputs);
      outputs = map (λ at. output_after r at.0 at.1) (enumerate_from 0 x.outputs);
    }

-- the figures before the first slot, over so many ports
abbrev pub no_figures : ℕ → Figures
no_figures ports =
    record {
      slots = 0;
      proposals = 0;
      most = 0;
      inputs = replicate ports (record { cells = 0; longest = 0; slack = None });
      outputs = replicate ports (record { cells = 0; wait = None });
    }

-- ## The least slack, by the cells as they arrive

-- the slack with which a cell arrived at input i, if one did: in its list it is the only one of this slot
unfoldable pub slack_on_arrival : ℕ → SlotRecord → Option ℕ
slack_on_arrival i r =
    option_map (λ c. cushion_of r.arrived c - position_or_len (λ x. x.key.slot == r.slot) (input r.arrived i))
    (came_to r.came i)

-- the least slack that the figures have for input i
abbrev pub least_slack : Figures → ℕ → Option ℕ
least_slack x i = option_and_then (λ y. y.slack) (slice_get x.inputs i)

-- the figures are of as many inputs, and each cell that waits has more slack than the least that they have for its
-- input
pub record HasMoreSlack (x : Figures) (f : Fabric) : Type 0 where
  pub ports : length x.inputs ≡ length f.inputs
  pub more : (i thread : ℕ) (c : Queued) → slice_get (input f i) thread ≡ Some c →
      (least : ℕ) × (least_slack x i ≡ Some least) × (least + thread < cushion_of f c)
