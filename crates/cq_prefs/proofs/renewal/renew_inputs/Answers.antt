use Rattle.cq_prefs.proofs.Terms.{arith, rules, ◌∙◌, kept_has, pairs_kept}
use Rattle.cq_prefs.proofs.ByKey.{key_parts}
use Rattle.cq_prefs.proofs.Members.{apart_filter, apart_range}
use Rattle.cq_prefs.proofs.InputOrder.{is_input_order, key_has, sorted_rises}
use Rattle.cq_prefs.proofs.Changes.{none_back, put_back, room_back}
use Rattle.cq_prefs.proofs.OneOrder.{in_keys}
use Rattle.cq_prefs.proofs.renewal.renew_inputs.Goals as goal

pub place_by_key-at-requires : goal.place_by_key-at-requires
place_by_key-at-requires c =
    search (arith, rules, key_parts, key_has, kept_has, pairs_kept, sorted_rises, apart_filter, apart_range)

pub insert-requires-clause-room : goal.insert-requires-clause-room
insert-requires-clause-room c =
    let order = in_keys _ c.args.output _ (is_input_order _ _ c.requires.keys) in search (arith, rules, room_back order)

pub returns-in-Some : goal.returns-in-Some
returns-in-Some c =
    let order = in_keys _ c.args.output _ (is_input_order _ _ c.requires.keys) in search (arith, rules, put_back order)

pub returns-in_default : goal.returns-in_default
returns-in_default c =
    none_back (in_keys _ _ _ (is_input_order _ _ c.requires.keys)) c.args.input
    (c.leave.ensures ∙ c.requires.others) (search (rules))
