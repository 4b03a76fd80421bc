use Rattle.cq_gen.proofs.Terms.{◌-◌, length}
use Rattle.cq_gen.proofs.Drawn.{Draws}
use Rattle.cq_gen.proofs.draws.first_draws.Given as goal

abbrev pub invariant-draws : goal.invariant-draws
invariant-draws l = Draws l.seed l.count l.words.items l.generator

abbrev pub decreases-draws : goal.decreases-draws
decreases-draws l = l.count - length l.words.items
