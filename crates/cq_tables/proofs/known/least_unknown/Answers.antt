use Rattle.cq_tables.proofs.Terms.{arith, rules}
use Rattle.cq_tables.proofs.Values.{least_is_first}
use Rattle.cq_tables.proofs.known.least_unknown.Goals as goal

pub returns-in-None : goal.returns-in-None
returns-in-None c = search (arith, rules, least_is_first c.args.names.now)

pub returns-in-Some : goal.returns-in-Some
returns-in-Some c = search (arith, rules, least_is_first c.args.names.now)
