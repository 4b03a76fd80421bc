use Rattle.cq_fabric.proofs.Terms.{◌≡◌, length, map, take, replicate, cells_of, list_room}
use Rattle.cq_fabric.proofs.standing.filled_lists.Given as goal

-- the lists of the inputs before this one have their cells and their rooms
abbrev pub invariant-places : goal.invariant-places
invariant-places l = record {
  cells : cells_of l.lists.items ≡ take l.at l.cells;
  rooms : map list_room l.lists.items ≡ take l.at l.rooms;
  outputs : map (λ list. list.outputs) l.lists.items ≡ replicate l.at (length l.rooms);
}
