-- The phases of a slot: cells arrive, a matching is transferred, the outputs send, and again a matching is transferred.
use Rattle.std.specs.Prelude.{◌≡◌, ℕ, List, length, Option, Some, None, Ok, slice_index_or}
use Rattle.cq_base.specs.declared.cell.Cell.{Cell}
use Rattle.cq_base.specs.declared.cell.Queued.{Queued}
use Rattle.cq_base.specs.Cells.{with_arrival}
use Rattle.cq_rank.specs.Machine.{Machine}
use Rattle.cq_ideal.specs.Ranking.{ranking}
use Rattle.cq_ideal.specs.IdealSlot.{fronts, rests, all_told}
use Rattle.cq_prefs.specs.Pairing.{Partners}
use Rattle.cq_prefs.specs.Moves.{Moves}
use Rattle.cq_laws.specs.Fabric.{Fabric, input, cushion_of}

-- the cell that came to input i, if one did
abbrev pub came_to : List (Option Queued) → ℕ → Option Queued
came_to came i = slice_index_or came i None

-- the list of an input after a cell came to it, or none: a cell goes in by its cushion
abbrev pub list_arrived : Fabric → Option Queued → List Queued → List Queued
list_arrived f None cells = cells
list_arrived f (Some c) cells = with_arrival (cushion_of f c) c cells

-- the cells that arrive are ranked as in the ideal switch, and each goes into the list of its input
pub record Arrives (ms : List Machine) (slot : ℕ) (cells : List (Option Cell)) (came : List (Option Queued))
    (old new : Fabric) : Type 0 where
  pub ranked : ranking ms slot 0 cells old.ranks ≡ Ok (record { came = came; ranks = new.ranks })
  pub ports : length new.inputs ≡ length old.inputs
  pub lists : (i : ℕ) → input new i ≡ list_arrived old (came_to came i) (input old i)
  pub buffers : new.buffers ≡ old.buffers

-- a matching is transferred, and no rank machine is told of it
pub record Transfers (m : Partners) (old new : Fabric) : Type 0 where
  pub moves : Moves m old.inputs old.buffers new.inputs new.buffers
  pub ranks : new.ranks ≡ old.ranks

-- each output sends the first cell of its buffer, which is the most urgent there, or none where the buffer is empty,
-- and its rank machine is told as in the ideal switch
pub record Departs (ms : List Machine) (gone : List (Option Queued)) (old new : Fabric) : Type 0 where
  pub sent : gone ≡ fronts old.buffers
  pub buffers : new.buffers ≡ rests old.buffers
  pub inputs : new.inputs ≡ old.inputs
  pub ranks : new.ranks ≡ all_told ms gone old.ranks
