use Rattle.cq_audit.proofs.Terms.{arith, rules, length-map}
use Rattle.cq_audit.proofs.PhaseExact.{judged_stable, told_size}
use Rattle.cq_audit.proofs.phase.stable_told.Goals as goal

pub first_blocking-requires : goal.first_blocking-requires
first_blocking-requires c = search (arith, rules, told_size, length-map)

pub returns-in-None-clause-stable : goal.returns-in-None-clause-stable
returns-in-None-clause-stable c = judged_stable _ _ _ _ _ _ c.requires.offers c.in-Ok.ensures.pairs
    c.in-Ok.ensures.right c.requires.lines c.in-None.ensures.none
