use Rattle.cq_fabric.proofs.Terms.{refl, subst, FnReturnsAt}
use Rattle.cq_fabric.proofs.Filling.{one_told}
use Rattle.cq_fabric.proofs.standing.all_told.Goals as goal

pub items-preserved : goal.items-preserved
items-preserved g c cells_at tells =
    let x = c.index-items-at.result in
    one_told cells_at c.args.items.now c.items.at x c.items.all.items c.push.new.self.items c.in_ok-cells.cells
    (c.items.invariant cells_at tells) c.in_ok-push.ensures.items c.items-test.true c.index-items-at.is
    (tells x c.in_ok-cells.cells (subst (FnReturnsAt g.F.Fn c.args.tell x) c.in_ok-cells.was
    (record { shown = _; shows = refl; says = record { met = c.tell.ensures } })))
