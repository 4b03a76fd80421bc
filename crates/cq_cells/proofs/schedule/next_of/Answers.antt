use Rattle.cq_cells.proofs.Terms.{rules, arith}
use Rattle.cq_cells.proofs.Owned.{all_of_more}
use Rattle.cq_cells.proofs.Looked.{next_of_both}
use Rattle.cq_cells.proofs.schedule.next_of.Goals as goal

pub lines-preserved : goal.lines-preserved
lines-preserved c = search (arith, rules, all_of_more, next_of_both)
