use Rattle.cq_engine.proofs.Terms.{came_to, IsChangedTo, output_counted}
use Rattle.cq_engine.proofs.measure.count_outputs.Given as goal

-- the outputs before this one are counted
abbrev pub invariant-outputs : goal.invariant-outputs
invariant-outputs l = IsChangedTo (λ j. output_counted l.slot (came_to l.gone j)) l.fn.outputs l.output l.outputs
