use Rattle.cq_list.proofs.Terms.{arith, rules}
use Rattle.cq_list.proofs.Linked.{chain_first, still_there}
use Rattle.cq_list.proofs.pool.put_first.Goals as goal

pub returns-clause-chained : goal.returns-clause-chained
returns-clause-chained c = search (arith, rules, chain_first, still_there)
