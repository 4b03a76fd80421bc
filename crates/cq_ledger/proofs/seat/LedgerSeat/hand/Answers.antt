use Rattle.cq_ledger.proofs.Terms.{arith, cases_lt, get_or_past, rules}
use Rattle.cq_ledger.proofs.seat.LedgerSeat.hand.Goals as goal

pub returns-in-Some-clause-port : goal.returns-in-Some-clause-port
returns-in-Some-clause-port c =
    let placed = c.self.invariant.placed c.in-Some.input c.in-Some.field-0-1 in
    search (arith, rules, placed, get_or_past, cases_lt)
