use Rattle.cq_run.proofs.Terms.{rules, arith, ap, Err, ⊎_elim, common_steps, lt-ltb}
use Rattle.cq_run.proofs.Chain.{get-remove_same, text_is}
use Rattle.cq_run.proofs.reading.read_short.Goals as goal

pub returns-in-Ok-clause-judges : goal.returns-in-Ok-clause-judges
returns-in-Ok-clause-judges g c = search (arith, rules, g.F.Files.space, text_is, ⊎_elim)

pub returns-in-Err-Missing-clause-judges : goal.returns-in-Err-Missing-clause-judges
returns-in-Err-Missing-clause-judges g c = grind (arith, common_steps, g.F.Files.space)

pub returns-in-Err-Fault-clause-judges : goal.returns-in-Err-Fault-clause-judges
returns-in-Err-Fault-clause-judges g c =
    let why = rw c.text.ensures at (c.in-Err-Fault.ensures.why (ap Err c.in-Err-Fault.field-0-is)) in
    search (arith, rules, g.F.Files.space, c.in-Err-Fault.ensures.whole.fault, why, get-remove_same)

pub returns-in-Err-Long-clause-judges : goal.returns-in-Err-Long-clause-judges
returns-in-Err-Long-clause-judges g c = grind (arith, common_steps, lt-ltb, g.F.Files.space)
