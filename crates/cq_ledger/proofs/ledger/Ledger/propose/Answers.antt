use Rattle.cq_ledger.proofs.Terms.{◌+◌, ◌∙◌, arith, add-one, ap, sym, output_in_range, answer_of, hand_after}
use Rattle.cq_ledger.proofs.Allowed.{proposal-allowed, matched, proposed-seat}
use Rattle.cq_ledger.proofs.ledger.Ledger.propose.Goals as goal

pub asked-asked-requires : goal.asked-asked-requires
asked-asked-requires c =
    let m = matched c.args.self.now c.args.seat.now _ _ _ _ c.self.view_is c.seat.view_is c.requires.seat in
    rw m.offers_are at (c.seat.invariant.placed c.in-Some.input c.in-Some.place
    (c.seat.invariant.in_hand ∙ c.in-Some.is))

pub fetch_min-found-requires : goal.fetch_min-found-requires
fetch_min-found-requires c =
    let m = matched c.args.self.now c.args.seat.now _ _ _ _ c.self.view_is c.seat.view_is c.requires.seat in (
      m.table_is,
      (let r = output_in_range c.self.inside.offers c.asked-asked.ensures.offers c.in-Some.input
          c.asked-asked.result.output c.asked-asked.ensures.offered in
          omega arith),
      proposal-allowed c.self.inside.table.shared.key c.self.inside.offers c.self.invariant.0 _
          c.seat.inside.seat.id c.in-Some.input c.in-Some.place c.seat.inside.seat.me
          (c.seat.invariant.in_hand ∙ c.in-Some.is) m.offers_are
          (c.asked-asked.result.output + 1) c.asked-asked.result.position c.asked-asked.result.output
          c.asked-asked.ensures.output c.asked-asked.ensures.position (add-one _),
    )

pub invariant_of-seat : goal.invariant_of-seat
invariant_of-seat c =
    let m = matched c.args.self.now c.args.seat.now _ _ _ _ c.self.view_is c.seat.view_is c.requires.seat in
    let i = c.in-Some.input in
    let p = c.in-Some.place in
    proposed-seat c.seat.inside.seat.me c.seat.inside.claims c.seat.inside.hand c.seat.inside.made c.seat.invariant
    c.fetch_min-found.new.seat.me
    i p c.fetch_min-found.result c.answered-answer.result c.hand_next-seat-inside.result
    (c.fetch_min-found.ensures.2 i p (c.seat.invariant.in_hand ∙ c.in-Some.is))
    (c.answered-answer.ensures ∙ ap (λ o. answer_of o i p c.fetch_min-found.result) (sym m.offers_are))
    (c.hand_next-seat-inside.ensures ∙ ap (λ o. hand_after o i p c.answered-answer.result) (sym m.offers_are))
