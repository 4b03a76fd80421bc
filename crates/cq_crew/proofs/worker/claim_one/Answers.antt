use Rattle.cq_crew.proofs.Terms.{arith, rules}
use Rattle.cq_crew.proofs.Working.{idle-taken, idle-refused}
use Rattle.cq_crew.proofs.worker.claim_one.Goals as goal

pub propose_all-requires-clause-began : goal.propose_all-requires-clause-began
propose_all-requires-clause-began g c κs within = search (arith, rules, c.claim.ensures.taken)

pub returns-then-not-claim : goal.returns-then-not-claim
returns-then-not-claim g c =
    let idle = idle-refused c.args.ledger.now c.args.seat.now.view c.claim.new.seat c.args.input c.requires.hand
    (c.claim.ensures.refused c.if-not-claim.true) c.claim.ensures.seat in
    record { idle = idle.0; tried = idle.1; began = search (arith, rules, c.claim.ensures.refused) }

pub returns : goal.returns
returns g c =
    let idle = idle-taken c.args.ledger.now c.args.seat.now.view c.claim.new.seat.view c.propose_all.new.seat
    c.args.input (c.claim.ensures.taken c.if-not-claim.false) in search (arith, rules, idle, c.claim.ensures.taken)
