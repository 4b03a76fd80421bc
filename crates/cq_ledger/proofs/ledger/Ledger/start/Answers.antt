use Rattle.cq_ledger.proofs.Terms.{arith, rules}
use Rattle.cq_ledger.proofs.Seats.{start-keeps}
use Rattle.cq_ledger.proofs.ledger.Ledger.start.Goals as goal

pub of_words-requires : goal.of_words-requires
of_words-requires c = search (arith, rules, start-keeps)
