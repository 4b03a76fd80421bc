use Rattle.cq_cells.proofs.Terms.{rules, arith, get_or_read}
use Rattle.cq_cells.proofs.Owned.{counted}
use Rattle.cq_cells.proofs.schedule.Schedule.line.Goals as goal

pub returns : goal.returns
returns c =
    let here = counted c.args.input 0 c.args.input c.self.inside.lines.items c.self.invariant.own in
    search (arith, rules, get_or_read, here)
