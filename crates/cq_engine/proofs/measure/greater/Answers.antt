use Rattle.cq_engine.proofs.Terms.{rules, max}
use Rattle.cq_engine.proofs.measure.greater.Goals as goal

pub returns : goal.returns
returns c = c.either.ensures max (λ x y r k. search rules)
