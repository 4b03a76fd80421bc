use Rattle.cq_ledger.proofs.Terms.{rules, ◌≡◌, ◌∙◌, ap, arith, sym, ports, claim_taken, hand_at}
use Rattle.cq_ledger.proofs.Allowed.{claim-allowed-at, matched, taken-seat}
use Rattle.cq_ledger.proofs.Views.{bits}
use Rattle.cq_ledger.proofs.ledger.Ledger.claim.Goals as goal
use Rattle.cq_ledger.proofs.ledger.Ledger.claim.Goals.{Else-has_bit}

pub fetch_or-found-requires : goal.fetch_or-found-requires
fetch_or-found-requires c =
    let m = matched c.args.self.now c.args.seat.now _ _ _ _ c.self.view_is c.seat.view_is c.requires.seat in (
      m.table_is,
      (omega arith),
      claim-allowed-at c.self.inside.table.shared.key c.self.inside.offers c.self.invariant.0 _
          c.seat.inside.seat.id c.args.input c.seat.inside.seat.me (let a = ap ports m.offers_seen in omega arith)
          (ap (λ v. v.hand) m.view_seen ∙ c.requires.hand) m.offers_are c.bit_of-bit.result c.bit_of-bit.ensures,
    )

-- the step found the input unclaimed
taken : (c : Else-has_bit) → c.fetch_or-found.new.seat.me
    ≡ (claim_taken c.seat.inside.seat.me.0 c.args.input, c.seat.inside.seat.me.1)
taken c = search (arith, rules, bits.small)

pub invariant_of-seat-2 : goal.invariant_of-seat-2
invariant_of-seat-2 c =
    let m = matched c.args.self.now c.args.seat.now _ _ _ _ c.self.view_is c.seat.view_is c.requires.seat in
    taken-seat c.seat.inside.seat.me c.seat.inside.claims c.seat.inside.hand c.seat.inside.made c.seat.invariant
    c.fetch_or-found.new.seat.me c.args.input c.bit_of-bit.result c.hand_from-seat-inside.result
    (taken (goal.at.invariant_of-seat-2 c).Else-has_bit) c.bit_of-bit.ensures
    (c.hand_from-seat-inside.ensures ∙ ap (λ o. hand_at o c.args.input 0) (sym m.offers_are))

pub returns-clause-seat : goal.returns-clause-seat
returns-clause-seat c = let is = taken (goal.at.returns-clause-seat c).Else-has_bit in search (arith, rules, matched)

pub returns-clause-taken : goal.returns-clause-taken
returns-clause-taken c = search (arith, rules, taken)
