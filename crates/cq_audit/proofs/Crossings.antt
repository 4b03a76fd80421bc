-- What is told of the lists of some queues is told of their inputs, and so are the transfers of what the lines tell.
use Rattle.cq_audit.proofs.Terms.{common_steps, arith, ◌≡◌, ◌+◌, ◌++◌, ℕ, List, length, Queued, Transfer, RoomView, Waiting, cells_of, Moves, transfers_of, Partners, Queues, IsPhaseFault, IsStableTold, PhaseFault, length-map}
use Rattle.cq_audit.specs.Crossing.{AreNoted, HaveCrossed}

-- there are as many lists as inputs
pub fault_there : (lists : List Waiting) (inputs : List (List Queued)) (lines : List Transfer) (fault : PhaseFault) →
    cells_of lists ≡ inputs → IsPhaseFault (cells_of lists) lines fault → IsPhaseFault inputs lines fault
fault_there lists inputs lines fault is wrong = rw is at wrong

module _ (lists : List Waiting) (old new : Queues) (slot phase : ℕ) (lines : List Transfer) (pairs m : Partners)
    (is : cells_of lists ≡ old.inputs) (told : IsStableTold (cells_of lists) slot phase lines pairs)
    (same : m ≡ pairs) where
  pub told_there : IsStableTold old.inputs slot phase lines m
  told_there = grind (arith, common_steps)

  pub have_crossed : Moves m old.inputs old.buffers new.inputs new.buffers → new.from_inputs ≡ old.from_inputs →
      new.to_outputs ≡ old.to_outputs → HaveCrossed slot phase lines old new
  have_crossed moves from to = grind (arith, common_steps, told_there)

  pub are_noted : (note note' : RoomView Transfer) →
      note'.items ≡ note.items ++ transfers_of m old.inputs slot phase →
      note'.spare + length (transfers_of m old.inputs slot phase) ≡ note.spare → AreNoted lines note note'
  are_noted note note' noted room = grind (arith, common_steps, note.items)

pub ruleset cross_steps = (fault_there, told_there, have_crossed, are_noted, length-map)
