use Rattle.cq_list.proofs.Terms.{PlacesView, rules, arith, ap, insert, insert-append_left}
use Rattle.cq_list.proofs.BlockWalk.{insert_later}
use Rattle.cq_list.proofs.places.Places.insert.Goals as goal

pub returns-clause-outputs : goal.returns-clause-outputs
returns-clause-outputs c =
    let seen = ap (λ (v : PlacesView). insert v.outputs c.args.place c.args.output) c.self.view_is in
    search (arith, rules, seen, insert-append_left, insert_later)
