use Rattle.std.specs.Prelude.{◌≡◌, map}
use Rattle.cq_stream.specs.declared.item.Item.TheVariants.{Row}
use Rattle.cq_stream.specs.Rings.{SameReader, taken}
use Rattle.cq_file_trials.proofs.tests.stream.rows_taken.Given as goal

abbrev pub invariant-turns : goal.invariant-turns
invariant-turns l = (taken l.intake ≡ map Row l.rows.items) × SameReader l.initial.intake l.intake
