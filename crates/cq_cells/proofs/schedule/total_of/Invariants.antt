use Rattle.cq_cells.proofs.Terms.{◌≡◌, ◌*◌, ◌^◌, ◌≤◌, length, take, all_of}
use Rattle.cq_cells.proofs.schedule.total_of.Given as goal

abbrev pub invariant-lines : goal.invariant-lines
invariant-lines l =
    record { so_far : l.total ≡ length (all_of (take l.line-index l.lines)); few : l.total ≤ l.line-index * 2 ^ 28 }
