-- What the transfers of a phase leave of lists and buffers, and of what is noted.
use Rattle.std.specs.Prelude.{◌≡◌, ℕ, ◌+◌, ◌++◌, List, length}
use Rattle.cq_base.specs.declared.cell.Transfer.{Transfer}
use Rattle.cq_base.specs.Room.{RoomView}
use Rattle.cq_fabric.specs.Queues.{Queues}
use Rattle.cq_prefs.specs.Moves.{Moves}
use Rattle.cq_prefs.specs.Pairing.{Partners}
use Rattle.cq_audit.specs.Phase.{IsStableTold}

-- the lines are the transfers of a stable matching, and they were made; lists and buffers can hold as many as before
pub record HaveCrossed (slot phase : ℕ) (lines : List Transfer) (old new : Queues) : Type 0 where
  pub pairs : Partners
  pub told : IsStableTold old.inputs slot phase lines pairs
  pub moves : Moves pairs old.inputs old.buffers new.inputs new.buffers
  pub from_inputs : new.from_inputs ≡ old.from_inputs
  pub to_outputs : new.to_outputs ≡ old.to_outputs

-- the lines are noted behind what was noted before, and have taken room there
pub record AreNoted (lines : List Transfer) (note note' : RoomView Transfer) : Type 0 where
  pub items : note'.items ≡ note.items ++ lines
  pub spare : note'.spare + length lines ≡ note.spare
