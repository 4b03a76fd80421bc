use Rattle.cq_engine.proofs.Terms.{rules, arith, InputFigures, next_changed, still_few}
use Rattle.cq_engine.proofs.measure.count_inputs.Goals as goal

pub input_counted-counted-requires-clause-count : goal.input_counted-counted-requires-clause-count
input_counted-counted-requires-clause-count c =
    still_few c.inputs.invariant (λ (y : InputFigures). y.cells) _ (omega arith) c.requires.counts c.as_slice.ensures

pub inputs-preserved : goal.inputs-preserved
inputs-preserved c = search (arith, rules, next_changed)
