use Rattle.cq_simulate.proofs.Terms.{rules, arith, All-push, IsEmptied}
use Rattle.cq_simulate.proofs.packing.emptied.Goals as goal

pub places-preserved : goal.places-preserved
places-preserved c = let each = All-push (IsEmptied c.args.ports c.args.classes) in search (arith, rules, each)
