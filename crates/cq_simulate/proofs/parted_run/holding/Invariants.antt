use Rattle.cq_simulate.proofs.Terms.{◌≡◌, ◌+◌, length, take}
use Rattle.cq_simulate.proofs.parted_run.holding.Given as goal

-- the items before this place are there, and there is room for the others and for so many more
abbrev pub invariant-items : goal.invariant-items
invariant-items g l = record {
  items : l.room.items ≡ take l.item-index l.items;
  spare : l.room.spare + l.item-index ≡ length l.items + l.fn.spare;
}
