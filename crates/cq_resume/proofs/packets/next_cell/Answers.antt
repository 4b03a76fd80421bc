use Rattle.cq_resume.proofs.Terms.{arith, rules, filter_none, all_weaker, and_left, and_right, lt-leb, le-ltb}
use Rattle.cq_resume.proofs.packets.next_cell.Goals as goal

pub returns-then-slot-next-clause-none : goal.returns-then-slot-next-clause-none
returns-then-slot-next-clause-none c =
    search (arith, rules, filter_none, all_weaker, and_left, and_right, lt-leb, le-ltb, c.in_ok-slot.ensures)
