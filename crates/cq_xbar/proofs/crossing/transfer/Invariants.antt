use Rattle.cq_xbar.proofs.Terms.{◌≡◌, ◌+◌, ◌++◌, length, cells_of}
use Rattle.cq_xbar.proofs.Turns.{Crossed}
use Rattle.cq_xbar.proofs.Noting.{noted_until}
use Rattle.cq_xbar.proofs.crossing.transfer.Given as goal

-- the inputs before this one had their turn
abbrev pub invariant-loop-input : goal.invariant-loop-input
invariant-loop-input l = record {
  crossed : Crossed l.matching l.fn.lists l.fn.buffers l.input l.lists l.buffers;
  noted : l.note.items ≡ l.fn.note.items ++ noted_until l.matching (cells_of l.fn.lists) l.slot l.phase l.input;
  room : l.note.spare + length (noted_until l.matching (cells_of l.fn.lists) l.slot l.phase l.input) ≡ l.fn.note.spare;
}
