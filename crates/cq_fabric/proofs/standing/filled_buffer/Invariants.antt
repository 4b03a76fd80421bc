use Rattle.cq_fabric.proofs.Terms.{◌≡◌, ◌+◌, ◌≤◌, length, take, buffer_room}
use Rattle.cq_fabric.proofs.standing.filled_buffer.Given as goal

-- the cells before this one are there
abbrev pub invariant-cells : goal.invariant-cells
invariant-cells l = record {
  cells : l.buffer.cells ≡ take l.queued-index l.cells;
  room : buffer_room l.buffer ≡ l.fn.room;
  spare : length l.cells ≤ l.buffer.spare + l.queued-index;
}
