use Rattle.cq_cells.proofs.Terms.{rules, ◌≡◌, [], arith, get_or_read, arriving_at, all_of, cases_eq, get_or-set_other, get_or-set_same, length-set}
use Rattle.cq_cells.proofs.Owned.{arriving_at_line, arrives_own}
use Rattle.cq_cells.proofs.coming.come.Goals as goal
use Rattle.cq_cells.proofs.coming.come.Goals.{After-cell_near-cell}

-- the cell that a line gives is the one that arrives at its input
given : (c : After-cell_near-cell) →
    c.cell_near-cell.result ≡ arriving_at (all_of c.args.lines.now) c.args.slot c.lines.input
given c =
    let line = get_or_read c.args.lines.now c.lines.input _ c.lines-test.true c.index-lines-input.is [] in
    rw (arriving_at_line c.args.slot c.lines.input c.args.lines.now c.requires.own c.lines-test.true, ← line)
    c.cell_near-cell.ensures

pub put-requires-clause-own : goal.put-requires-clause-own
put-requires-clause-own c = search (rules, given, arrives_own)

pub lines-preserved : goal.lines-preserved
lines-preserved c =
    search (arith, rules, length-set, get_or-set_same, get_or-set_other, cases_eq, given, c.lines.invariant)
