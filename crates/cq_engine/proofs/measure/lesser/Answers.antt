use Rattle.cq_engine.proofs.Terms.{rules, min}
use Rattle.cq_engine.proofs.measure.lesser.Goals as goal

pub returns : goal.returns
returns c = c.either.ensures min (λ x y r k. search rules)
