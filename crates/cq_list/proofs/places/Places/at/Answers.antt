use Rattle.cq_list.proofs.Terms.{PlacesView, arith, rules, ap, slice_get, get_or_read}
use Rattle.cq_list.proofs.Blocks.{shown_in, shown_behind}
use Rattle.cq_list.proofs.places.Places.at.Goals as goal

pub returns : goal.returns
returns c =
    let seen = ap (λ (v : PlacesView). slice_get v.outputs c.args.place) c.self.view_is in
    search (arith, rules, seen, shown_in, get_or_read, shown_behind)
