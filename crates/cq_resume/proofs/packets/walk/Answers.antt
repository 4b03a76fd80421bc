use Rattle.cq_resume.proofs.Terms.{rules, ◌<◌, ◌∙◌, refl, sym, arith, none_counted, Arrival, IsNameBefore, all_of_has}
use Rattle.std.proofs.lemmas.List.Kept.{AllPairs-filter}
use Rattle.cq_resume.proofs.Coming.{comes_from, walk_goes_on, walk_stops}
use Rattle.cq_resume.proofs.packets.walk.Goals as goal

pub arrivals-init : goal.arrivals-init
arrivals-init c = record { marks = refl; counted = refl; few = c.requires.room }

pub bounds-limits-cell : goal.bounds-limits-cell
bounds-limits-cell c =
    let low = all_of_has (λ (a : Arrival). a.cell.output < c.args.schedule.now.ports) in
    search (arith, rules, comes_from, low, c.requires.packets.outputs, c.in-Some.ensures.some)

pub is_named-named-requires : goal.is_named-named-requires
is_named-named-requires c = rw c.names_at-own.ensures (AllPairs-filter IsNameBefore _ _ c.requires.ordered)

pub returns-then-not-may_come-clause-mark : goal.returns-then-not-may_come-clause-mark
returns-then-not-may_come-clause-mark c =
    search (arith, rules, walk_stops, c.in-Some.ensures.some)

pub arrivals-preserved : goal.arrivals-preserved
arrivals-preserved c = search (arith, rules, walk_goes_on, c.in-Some.ensures.some)

pub returns-clause-mark : goal.returns-clause-mark
returns-clause-mark c = rw c.in_default.ensures.none at c.arrivals.invariant.marks

pub returns-clause-refused : goal.returns-clause-refused
returns-clause-refused c = sym (none_counted _) ∙ (rw c.in_default.ensures.none at c.arrivals.invariant.counted)
