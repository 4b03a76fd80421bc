-- What the cells that arrive in a slot are ranked.
use Rattle.std.specs.Prelude.{◌≡◌, ℕ, ◌+◌, ◌<◌, ◌^◌, nat_lt, if◌then◌else◌, List, [], ◌∷◌, Option, Some, None, Result, Ok, Err, slice_set, slice_index_or}
use Rattle.cq_base.specs.declared.cell.Cell.{Cell}
use Rattle.cq_base.specs.declared.cell.Queued.{Queued}
use Rattle.cq_base.specs.declared.cell.TagFault.{TagFault}
use Rattle.cq_base.specs.Arrivals.{arrival_at}
use Rattle.cq_rank.specs.Machine.{Machine, machine_at}

-- the arriving cells by input, each with its key, and the rank states after they were ranked
pub record Ranking : Type 0 where
  pub came : List (Option Queued)
  pub ranks : List (List ℕ)

-- the ranking, with what came to the input before it in front
abbrev pub after_input : Option Queued → Result Ranking TagFault → Result Ranking TagFault
after_input came (Ok r) = Ok (record { came = came ∷ r.came; ranks = r.ranks })
after_input came (Err fault) = Err fault

-- a cell that arrives, with its key
abbrev pub keyed : Cell → ℕ → ℕ → ℕ → ℕ → Queued
keyed cell level rank slot input =
    record { cell = cell; key = record { level = level; rank = rank; slot = slot; input = input } }

-- The cells of a slot are ranked in order of input, here from this input on, each by its output's machine, and each
-- has the level of its class. The first rank that does not fit 128 bits is the tag fault of the slot.
abbrev pub ranking : List Machine → ℕ → ℕ → List (Option Cell) → List (List ℕ) → Result Ranking TagFault
ranking ms slot input [] ranks = Ok (record { came = []; ranks = ranks })
ranking ms slot input (None ∷ cells) ranks = after_input None (ranking ms slot (input + 1) cells ranks)
ranking ms slot input (Some cell ∷ cells) ranks =
    let m = machine_at ms cell.output in
    let state = slice_index_or ranks cell.output [] in
    let rank = m.ranked state cell.class in
    let rest = ranking ms slot (input + 1) cells (slice_set ranks cell.output (m.given state cell.class)) in
    if nat_lt rank (2 ^ 128) then after_input (Some (keyed cell (m.level cell.class) rank slot input)) rest
    else Err (record { slot = slot; input = input; output = cell.output })

-- each cell that arrives comes to one of the ports, for one of them, and is of one of the classes
pub record AreForPorts (ports class_count : ℕ) (cells : List (Option Cell)) : Type 0 where
  pub inputs : (input : ℕ) (cell : Cell) → arrival_at cells input ≡ Some cell → input < ports
  pub outputs : (input : ℕ) (cell : Cell) → arrival_at cells input ≡ Some cell → cell.output < ports
  pub classes : (input : ℕ) (cell : Cell) → arrival_at cells input ≡ Some cell → cell.class < class_count
