use Rattle.cq_pair.proofs.Terms.{◌≡◌, inputs_with_offers}
use Rattle.cq_pair.proofs.free_inputs.FreeInputs.fill.Given as goal

-- the inputs before this one that have an offer are in
abbrev pub invariant-loop-input : goal.invariant-loop-input
invariant-loop-input l = l.self-inside.inputs.items ≡ inputs_with_offers l.offers l.input
