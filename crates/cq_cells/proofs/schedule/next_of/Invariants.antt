use Rattle.cq_cells.proofs.Terms.{take, all_of, IsNextArrival}
use Rattle.cq_cells.proofs.schedule.next_of.Given as goal

abbrev pub invariant-lines : goal.invariant-lines
invariant-lines l = IsNextArrival (all_of (take l.input l.lines)) l.from l.next
