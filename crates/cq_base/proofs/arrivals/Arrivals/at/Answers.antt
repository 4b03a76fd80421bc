use Rattle.cq_base.proofs.Terms.{arith, ap, ◌∙◌, option_flatten}
use Rattle.cq_base.proofs.Places.{own_read}
use Rattle.cq_base.proofs.arrivals.Arrivals.at.Goals as goal

pub returns-clause-own : goal.returns-clause-own
returns-clause-own c = own_read c.args.input c.self.inside.cells c.get.result c.flatten.result c.self.invariant
    (c.get.ensures.lookup.4 (omega arith)) (c.flatten.ensures ∙ ap option_flatten c.copied.ensures)
