use Rattle.cq_run.proofs.Terms.{arith, rules}
use Rattle.cq_run.proofs.Chain.{capture_halts, capture_is}
use Rattle.cq_run.proofs.reading.read_input.Goals as goal

pub returns-in-Ok-clause-judges : goal.returns-in-Ok-clause-judges
returns-in-Ok-clause-judges g c = λ r.
    let file = c.in_ok-bytes.ensures.judges in
    let ok = capture_is r _ _ _ _ _ _ file.ok (rw c.into_vec.ensures at c.in-Ok.ensures.spelt) in search (arith, rules)

pub returns-in-Err-clause-judges : goal.returns-in-Err-clause-judges
returns-in-Err-clause-judges g c = λ r. search (arith, rules, capture_halts r, c.in_ok-bytes.ensures.judges)
