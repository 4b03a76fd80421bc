use Rattle.cq_ledger.proofs.Terms.{arith, rules, common_steps, ◌≡◌, ◌∙◌, ap, slots_items, IsInputBest, proposals, IsLedger, sound-after, state_after}
use Rattle.cq_ledger.proofs.Closing.{closing-best}
use Rattle.cq_ledger.proofs.Allowed.{matched}
use Rattle.cq_ledger.proofs.ledger.Ledger.close.Goals as goal
use Rattle.cq_ledger.proofs.ledger.Ledger.close.Goals.{After-read_matching-matching}

pub read_matching-matching-requires-clause-shown : goal.read_matching-matching-requires-clause-shown
read_matching-matching-requires-clause-shown c =
    let final = c.close_with-closed.ensures.values.2 in
    let k : IsLedger c.self.inside.offers (slots_items c.close_with-closed.result.words) final.0.views =
    rw (c.self.invariant.0, final.2) at final.1.0 in
    (state_after _ k.events, sound-after c.self.inside.offers k.offers k.events k.are_events, k.positions)

-- the matching is the one, and the seat made its proposals
phase : (c : After-read_matching-matching) → IsInputBest c.self.inside.offers c.read_matching-matching.result
    × (c.seat.inside.seat.me.0.made ≡ proposals c.self.inside.offers c.read_matching-matching.result)
phase c =
    let final = c.close_with-closed.ensures.values.2 in
    let m = matched c.args.self c.args.seat _ _ _ _ c.self.view_is c.seat.view_is c.requires.seat in
    let k : IsLedger c.self.inside.offers (slots_items c.close_with-closed.result.words) final.0.views =
    rw (c.self.invariant.0, final.2) at final.1.0 in
    let w = sound-after c.self.inside.offers k.offers k.events k.are_events in
    rw (c.read_matching-matching.ensures (state_after c.self.inside.offers k.events) w k.positions)
    (closing-best c.self.inside.offers _ final.0.views k c.seat.inside.seat.id c.seat.inside.seat.me.0 final.1.1
    (λ i h. grind (arith, common_steps)) (ap (λ v. v.hand) m.view_seen ∙ c.requires.hand))

pub returns-clause-best : goal.returns-clause-best
returns-clause-best c = search (arith, rules, phase)

pub returns-clause-proposals : goal.returns-clause-proposals
returns-clause-proposals c = search (arith, rules, phase)
