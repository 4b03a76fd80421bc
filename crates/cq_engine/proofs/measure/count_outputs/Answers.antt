use Rattle.cq_engine.proofs.Terms.{◌≡◌, ℕ, output_counted, None, arith, rules, OutputFigures, next_changed, next_kept, still_few}
use Rattle.cq_engine.proofs.measure.count_outputs.Goals as goal

abbrev none : OutputFigures
none = record { cells = 0; wait = None }

-- what was seen of an output stays where it sent nothing: no cell more, and no wait
nothing_counted : (slot : ℕ) (x : OutputFigures) → x ≡ output_counted slot None x
unfolding output_counted
nothing_counted slot x = search (arith, rules)

pub output_counted-counted-requires : goal.output_counted-counted-requires
output_counted-counted-requires c =
    search (arith, rules, still_few c.outputs.invariant (λ (y : OutputFigures). y.cells) none)

pub outputs-preserved : goal.outputs-preserved
outputs-preserved c = search (arith, rules, next_changed, next_kept c.outputs.invariant none, nothing_counted)
