use Rattle.cq_prefs.proofs.Terms.{rules, arith, take-set-lt}
use Rattle.cq_prefs.proofs.Padded.{IsPadded-set}
use Rattle.cq_prefs.proofs.Pairs.{joined_pairs}
use Rattle.cq_prefs.proofs.matching.Matching.join.Goals as goal

pub invariant_of-self : goal.invariant_of-self
invariant_of-self c = search (arith, rules, take-set-lt, IsPadded-set, joined_pairs)

pub returns : goal.returns
returns c = search (arith, rules, take-set-lt)
