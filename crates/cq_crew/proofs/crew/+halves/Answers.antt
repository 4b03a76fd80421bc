use Rattle.cq_crew.proofs.Terms.{subst, SeatState, HasWorked}
use Rattle.cq_crew.proofs.Working.{worked-joined}
use Rattle.cq_crew.proofs.crew.+halves.Goals as goal

pub returns : goal.returns
returns g t c =
    let P : SeatState → Type 0 = λ s. HasWorked c.args.ledger.now s.view c.join-both.result.0 in
    worked-joined c.args.ledger.now c.args.seat.view c.join-both.result.1.view c.join-both.result.0 c.join.new.into
    (subst P c.split-other.ensures.same c.join-both.ensures.first) c.join.ensures.seat c.join.ensures.joined
