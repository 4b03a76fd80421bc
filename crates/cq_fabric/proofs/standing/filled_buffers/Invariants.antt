use Rattle.cq_fabric.proofs.Terms.{◌≡◌, map, take, cells_in, buffer_room}
use Rattle.cq_fabric.proofs.standing.filled_buffers.Given as goal

-- the buffers of the outputs before this one have their cells and their rooms
abbrev pub invariant-places : goal.invariant-places
invariant-places l = record {
  cells : cells_in l.buffers.items ≡ take l.at l.cells;
  rooms : map buffer_room l.buffers.items ≡ take l.at l.rooms;
}
