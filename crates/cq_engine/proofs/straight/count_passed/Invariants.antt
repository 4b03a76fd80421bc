use Rattle.cq_engine.proofs.Terms.{came_to, IsChangedTo, input_passed}
use Rattle.cq_engine.proofs.straight.count_passed.Given as goal

-- the inputs before this one are counted
abbrev pub invariant-inputs : goal.invariant-inputs
invariant-inputs l = IsChangedTo (λ k. input_passed (came_to l.came k)) l.fn.inputs l.input l.inputs
