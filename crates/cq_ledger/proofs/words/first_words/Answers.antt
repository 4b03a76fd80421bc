use Rattle.cq_ledger.proofs.Terms.{arith, rules, add-one, take-replicate}
use Rattle.cq_ledger.proofs.words.first_words.Goals as goal

pub returns : goal.returns
returns c = search (arith, rules, add-one c.args.ports, take-replicate c.args.ports 64 c.args.ports c.requires)
