use Rattle.cq_ledger.proofs.Terms.{◌∙◌, ap, arith, Seated}
use Rattle.cq_ledger.proofs.Allowed.{look-allowed, matched}
use Rattle.cq_ledger.proofs.ledger.Ledger.join.Goals as goal

pub load-requires : goal.load-requires
load-requires c =
    let m = matched c.args.self.now c.args.into.now _ _ _ _ c.self.view_is c.into.view_is c.requires.seat in (
      c.join_seat.ensures.0 ∙ m.table_is,
      (omega arith),
      look-allowed c.self.inside.table.shared.key c.self.inside.offers c.self.invariant.0 _ c.join_seat.new.seat.id
          c.join_seat.new.seat.me (ap (λ (x : Seated). x.0.offers) c.join_seat.ensures.2 ∙ m.offers_are),
    )
