use Rattle.cq_fabric.proofs.Terms.{◌≡◌, ◌+◌, ◌≤◌, length, take, list_room}
use Rattle.cq_fabric.proofs.standing.filled_list.Given as goal

-- the cells before this one wait
abbrev pub invariant-places : goal.invariant-places
invariant-places l = record {
  cells : l.list.cells ≡ take l.at l.cells;
  room : list_room l.list ≡ l.fn.room;
  spare : length l.cells ≤ l.list.spare + l.at;
  outputs : l.list.outputs ≡ l.fn.outputs;
}
