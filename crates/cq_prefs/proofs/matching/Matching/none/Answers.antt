use Rattle.cq_prefs.proofs.Terms.{arith, most_ports, rules, ℕ, Option, None, take-replicate, drop-replicate}
use Rattle.cq_prefs.proofs.Pairs.{no_pairs}
use Rattle.cq_prefs.proofs.matching.Matching.none.Goals as goal

pub invariant_of-result : goal.invariant_of-result
invariant_of-result c = search (arith, rules, drop-replicate, take-replicate, no_pairs)

pub returns : goal.returns
returns c = let none : Option ℕ = None in take-replicate c.args.ports most_ports none c.requires
