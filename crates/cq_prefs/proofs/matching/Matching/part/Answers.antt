use Rattle.cq_prefs.proofs.Terms.{rules, arith, cases_eq, length-set, get_or-set_same, get_or-set_other, take-set-lt}
use Rattle.cq_prefs.proofs.Padded.{IsPadded-set}
use Rattle.cq_prefs.proofs.matching.Matching.part.Goals as goal

pub invariant_of-self : goal.invariant_of-self
invariant_of-self c =
    search (arith, rules, take-set-lt, IsPadded-set, length-set, get_or-set_same, get_or-set_other, cases_eq)

pub returns : goal.returns
returns c = search (arith, rules, take-set-lt)
