use Rattle.cq_space.proofs.Terms.{arith, rules}
use Rattle.cq_space.proofs.Replaced.{length-rest, replaced_on}
use Rattle.cq_space.proofs.whole.write_whole.Goals as goal

pub loop-written-preserved : goal.loop-written-preserved
loop-written-preserved g c =
    search (arith, rules, g.F.Files.space, replaced_on, length-rest, g.met.F.Files.lasts.both)
