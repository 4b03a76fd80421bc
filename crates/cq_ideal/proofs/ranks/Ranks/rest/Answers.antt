use Rattle.cq_ideal.proofs.Terms.{rules, arith}
use Rattle.cq_ideal.proofs.Resting.{resting_last, resting_next}
use Rattle.cq_ideal.proofs.ranks.Ranks.rest.Goals as goal

pub outputs-preserved : goal.outputs-preserved
outputs-preserved g c = search (arith, rules, resting_next c.outputs.invariant)

pub returns-clause-states : goal.returns-clause-states
returns-clause-states g c = cc (resting_last c.outputs.invariant c.requires.states (omega arith))
