use Rattle.cq_engine.proofs.Terms.{came_to, IsChangedTo, input_counted}
use Rattle.cq_engine.proofs.measure.count_inputs.Given as goal

-- the inputs before this one are counted
abbrev pub invariant-inputs : goal.invariant-inputs
invariant-inputs l =
    IsChangedTo (λ k. input_counted l.look l.queues k (came_to l.came k)) l.fn.inputs l.input l.inputs
