use Rattle.cq_prefs.proofs.OutputOrder.{is_output_order}
use Rattle.cq_prefs.proofs.Terms.{arith, rules, ◌∙◌, sym, ap, position_or_len, taken_none}
use Rattle.cq_prefs.proofs.Changes.{none_back, put_back, room_back}
use Rattle.cq_prefs.proofs.OneOrder.{in_places}
use Rattle.cq_prefs.proofs.ByKey.{found_place, output_parts}
use Rattle.cq_prefs.proofs.renewal.renew_outputs.Goals as goal

pub place_by_place-at-requires : goal.place_by_place-at-requires
place_by_place-at-requires c = search (rules, output_parts c.args.list.now.cells c.in-Some.place c.args.output)

pub insert-requires-clause-room : goal.insert-requires-clause-room
insert-requires-clause-room c =
    let order = in_places _ _ (is_output_order c.args.list.now.cells) in
    search (arith, rules, room_back order, found_place)

pub returns-in-Some : goal.returns-in-Some
returns-in-Some c =
    let found = found_place c.args.output c.args.list.now.cells c.in-Some.place
    (sym c.place_for.ensures ∙ c.in-Some.is) in
    c.insert.ensures
    ∙ put_back (in_places _ _ (is_output_order _)) c.args.output (c.leave.ensures ∙ c.requires.others) _ found.1
    (rw found.0 at (c.place_by_place-at.ensures.place ∙ ap (position_or_len _) c.as_slice.ensures.ports))

pub returns-in_default : goal.returns-in_default
returns-in_default c =
    none_back (in_places _ _ (is_output_order _)) c.args.output (c.leave.ensures ∙ c.requires.others)
    (search (arith, rules, taken_none))
