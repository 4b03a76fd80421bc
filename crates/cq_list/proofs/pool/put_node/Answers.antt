use Rattle.cq_list.proofs.pool.put_node.Goals as goal

pub returns-then-ahead-eq0-clause-chained : goal.returns-then-ahead-eq0-clause-chained
returns-then-ahead-eq0-clause-chained c = rw c.if-ahead-eq0.true c.put_first-place.ensures.chained
