use Rattle.cq_engine.proofs.Terms.{None, arith, rules, InputFigures, next_changed, next_kept, still_few}
use Rattle.cq_engine.proofs.straight.count_passed.Goals as goal

abbrev none : InputFigures
none = record { cells = 0; longest = 0; slack = None }

pub input_passed-counted-requires : goal.input_passed-counted-requires
input_passed-counted-requires c =
    search (arith, rules, still_few c.inputs.invariant (λ (y : InputFigures). y.cells) none)

pub inputs-preserved : goal.inputs-preserved
inputs-preserved c = search (arith, rules, next_changed, next_kept c.inputs.invariant none)
