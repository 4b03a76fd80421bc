-- Only proofs use this. What one slot adds to the figures of an input and of an output. The slack that is added is
-- that of the cell that arrived, or, where the cells that waited before were not looked at yet, the least of all.
use Rattle.std.specs.Prelude.{ℕ, ◌+◌, ◌-◌, ◌==◌, min, max, if◌then◌else◌, length, [], Option, is_some}
use Rattle.std.specs.List.{position_or_len, reduce}
use Rattle.std.specs.Option.{option_map}
use Rattle.cq_base.specs.declared.cell.Queued.{Queued}
use Rattle.cq_base.specs.declared.figures.InputFigures.{InputFigures}
use Rattle.cq_base.specs.declared.figures.OutputFigures.{OutputFigures}
use Rattle.cq_base.specs.Cells.{cushion}
use Rattle.cq_prefs.specs.FirstCells.{list_of}
use Rattle.cq_laws.specs.Measures.{either_by, slacks}
use Rattle.cq_fabric.specs.Queues.{Queues, fabric_of}
use Rattle.cq_engine.specs.declared.measure.Look.{Look}
use Rattle.cq_engine.specs.declared.measure.Look.TheVariants as look

-- the slack of the cell that came to input i, if one did
abbrev pub arriving_slack : Queues → ℕ → Option Queued → Option ℕ
arriving_slack q i came =
    option_map (λ c. cushion c.key (list_of q.buffers c.cell.output)
    - position_or_len (λ x. x.key.slot == c.key.slot) (list_of q.inputs i)) came

-- the slack that is seen at input i, if a cell is looked at there
abbrev pub slack_seen : Look → Queues → ℕ → Option Queued → Option ℕ
slack_seen look.Arriving q i came = arriving_slack q i came
slack_seen look.All q i came = reduce min (slacks (fabric_of q []) i)

-- the figures of input i, with the cell that came more
unfoldable pub input_counted : Look → Queues → ℕ → Option Queued → InputFigures → InputFigures
input_counted looks q i came x =
    record {
      cells = x.cells + (if is_some came then 1 else 0);
      longest = max x.longest (length (list_of q.inputs i));
      slack = either_by min x.slack (slack_seen looks q i came);
    }

-- how many slots the cell that left had waited
abbrev pub wait_of : ℕ → Option Queued → Option ℕ
wait_of slot gone = option_map (λ q. slot - q.key.slot) gone

-- the figures of an output, with the cell that left more
unfoldable pub output_counted : ℕ → Option Queued → OutputFigures → OutputFigures
output_counted slot gone x =
    record {
      cells = x.cells + (if is_some gone then 1 else 0);
      wait = either_by max x.wait (wait_of slot gone);
    }
