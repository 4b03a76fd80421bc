-- Only proofs use this.
-- What a phase of a slot does.
use Rattle.std.specs.Prelude.{ℕ, ◌≡◌, ◌≤◌, ◌+◌, ◌*◌, ◌++◌, length}
use Rattle.cq_base.specs.declared.cell.Transfer.{Transfer}
use Rattle.cq_base.specs.Room.{RoomView}
use Rattle.cq_engine.specs.Engine.{AreWorkers}
use Rattle.cq_fabric.specs.Queues.{CanCross, Queues}
use Rattle.cq_prefs.specs.FirstCells.{orders_of}
use Rattle.cq_prefs.specs.Moves.{Moves, transfers_of}
use Rattle.cq_prefs.specs.Pairing.{IsInputBest, Partners, proposals}

-- so many workers can find a matching of these queues, and it can be transferred and noted
pub record CanBeCrossed (count : ℕ) (q : Queues) (note : RoomView Transfer) : Type 0 where
  pub workers : AreWorkers count
  pub cells : CanCross q
  pub room : length q.inputs ≤ note.spare

-- the first cells of the pairs of the input-best matching have crossed, and there were so many proposals
pub record HaveMovedBest (m : Partners) (count : ℕ) (q q' : Queues) : Type 0 where
  pub best : IsInputBest (orders_of q.inputs) m
  pub counted : count ≡ proposals (orders_of q.inputs) m
  pub moves : Moves m q.inputs q.buffers q'.inputs q'.buffers

-- the input-best matching of the lists was transferred and noted, after so many proposals
pub record HasCrossed (slot phase : ℕ) (q q' : Queues) (note note' : RoomView Transfer) (made : ℕ) : Type 0 where
  pub matching : Partners
  pub crossed : HaveMovedBest matching made q q'
  pub few : made ≤ length q.inputs * length q.inputs
  pub from_inputs : q'.from_inputs ≡ q.from_inputs
  pub to_outputs : q'.to_outputs ≡ q.to_outputs
  pub noted : note'.items ≡ note.items ++ transfers_of matching q.inputs slot phase
  pub note_room : note'.spare + length (transfers_of matching q.inputs slot phase) ≡ note.spare
