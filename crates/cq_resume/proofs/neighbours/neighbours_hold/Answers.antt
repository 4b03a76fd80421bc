use Rattle.cq_resume.proofs.Terms.{true, false, refl, FnReturnsAtPair, ◌≡◌, ◌-◌, ◌+◌, arith}
use Rattle.std.proofs.lemmas.List.{Elements.pair_read, Sorted.all_adjacent_more}
use Rattle.cq_resume.proofs.neighbours.neighbours_hold.Goals as goal

pub returns-then-not-holds : goal.returns-then-not-holds
returns-then-not-holds g c =
    let next : c.places.at - 1 + 1 ≡ c.places.at = omega arith in
    let failed = pair_read c.args.items.now (λ a b. FnReturnsAtPair g.F.Fn c.args.holds a b false) (c.places.at - 1)
    c.places.at _ _ (omega arith) c.places-test.true c.index-items-at.is c.index-items-at-in-places.is
    (rw (← c.if-not-holds.true)
    (record { first = _; second = _; shows = (refl, refl); says = record { met = c.holds.ensures } })) in
    record { each = (c.places.at - 1, omega arith, rw next failed) }

pub places-preserved : goal.places-preserved
places-preserved g c = all_adjacent_more c.args.items.now (λ a b. FnReturnsAtPair g.F.Fn c.args.holds a b true)
    c.places.at c.places.auto.at c.places.invariant (pair_read c.args.items.now
    (λ a b. FnReturnsAtPair g.F.Fn c.args.holds a b true) (c.places.at - 1) c.places.at _ _
    (omega arith) c.places-test.true c.index-items-at.is c.index-items-at-in-places.is (rw (← c.if-not-holds.false)
    (record { first = _; second = _; shows = (refl, refl); says = record { met = c.holds.ensures } })))
