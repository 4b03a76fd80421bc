use Rattle.cq_cells.proofs.Terms.{all_of}
use Rattle.cq_cells.proofs.Owned.{Filling}
use Rattle.cq_cells.proofs.coming.come.Given as goal

-- the places of the inputs before this one are filled
abbrev pub invariant-lines : goal.invariant-lines
invariant-lines l = Filling (all_of l.lines) l.slot l.input l.fn.arrivals l.arrivals
