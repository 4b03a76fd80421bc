use Rattle.cq_ideal.proofs.Terms.{rules, arith, length-map, get_or-map, set-get_or, map-set, common_steps, HoldsLists, [], ◌∷◌, ◌++◌, ◌≡◌, ◌<◌, ◌+◌, None, List, Queued, slice_get, drop, length, fronts, departures_from, length-append, length-set, append_assoc}
use Rattle.cq_ideal.proofs.Changed.{at_place, put_next}
use Rattle.cq_ideal.proofs.Sending.{told_next}
use Rattle.cq_ideal.proofs.send.send.Goals as goal

pub outputs-preserved : goal.outputs-preserved
outputs-preserved g c =
    let holds : HoldsLists c.pop-gone.new.self.lists c.sent.new.self =
    grind (arith, common_steps, set-get_or, get_or-map, map-set) in
    let old = c.args.queues.now.lists in
    let at = c.outputs.output in
    let inside : at < length old = omega arith in
    let none = None in
    let front = get_or-map (λ (xs : List Queued). slice_get xs 0) old at [] none inside in
    let rest = get_or-map (λ (xs : List Queued). drop 1 xs) old at [] [] inside in
    let both : departures_from c.args.slot at (c.pop-gone.result ∷ [])
    ++ departures_from c.args.slot (at + 1) (drop (at + 1) (fronts old))
    ≡ departures_from c.args.slot at (drop at (fronts old)) = grind (arith, common_steps, at_place) in
    search (arith, rules, length-append, length-set, length-map, at_place, told_next, put_next, append_assoc)
