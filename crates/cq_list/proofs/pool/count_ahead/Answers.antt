use Rattle.cq_list.proofs.Terms.{arith, rules}
use Rattle.cq_list.proofs.Put.{all_but_last}
use Rattle.cq_list.proofs.pool.count_ahead.Goals as goal

pub returns-then-is_same : goal.returns-then-is_same
returns-then-is_same c =
    let last = all_but_last _ c.requires.chained.rising (omega arith) c.last_of_some.ensures.cell in
    search (arith, rules, last, c.is_same.ensures.0)
