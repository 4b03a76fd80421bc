use Rattle.cq_list.proofs.Terms.{ap, is_some, arith, rules}
use Rattle.cq_list.proofs.Walk.{finger_there, cell_ahead, next_reached}
use Rattle.cq_list.proofs.pool.last_of_some.Goals as goal

pub index-requires : goal.index-requires
index-requires c = ap is_some (finger_there c.requires.chained c.requires.last c.requires.some).1

pub returns : goal.returns
returns c = search (arith, rules, cell_ahead, next_reached)
