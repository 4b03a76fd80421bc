use Rattle.cq_fabric.proofs.Terms.{◌≡◌, List, Ok, map, take, FnReturnsAt, Queued}
use Rattle.cq_fabric.proofs.standing.all_told.Given as goal

-- those of the items before this one are there
abbrev pub invariant-items : goal.invariant-items
invariant-items g l = (cells_at : _ → List Queued) →
    ((x : _) (cells : List Queued) → FnReturnsAt g.F.Fn l.tell x (Ok cells) → cells ≡ cells_at x) →
    l.all.items ≡ take l.at (map cells_at l.items)
