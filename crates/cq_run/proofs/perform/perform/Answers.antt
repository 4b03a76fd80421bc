use Rattle.cq_run.proofs.Terms.{arith, rules}
use Rattle.cq_run.proofs.perform.perform.Goals as goal

pub returns-in-Err-clause-done : goal.returns-in-Err-clause-done
returns-in-Err-clause-done g c = search (arith, rules)
