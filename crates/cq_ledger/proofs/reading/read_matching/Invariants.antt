use Rattle.cq_ledger.proofs.Terms.{slots_items, State, IsSound, Shows}
use Rattle.cq_ledger.proofs.Matched.{IsRead}
use Rattle.cq_ledger.proofs.reading.read_matching.Given as goal

abbrev pub invariant-loop-output : goal.invariant-loop-output
invariant-loop-output l = (s : State) → IsSound l.offers s → Shows l.offers (slots_items l.closed.words) s
    → IsRead l.offers s l.matching l.output
