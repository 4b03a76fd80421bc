use Rattle.cq_run.proofs.Terms.{arith, rules, ap, Err}
use Rattle.cq_run.proofs.Chain.{get-remove_same}
use Rattle.cq_run.proofs.reading.read_configuration.Goals as goal

pub returns-in-Err-Fault-clause-judges : goal.returns-in-Err-Fault-clause-judges
returns-in-Err-Fault-clause-judges g c =
    let why = rw c.text.ensures at (c.in-Err-Fault.ensures.why (ap Err c.in-Err-Fault.field-0-is)) in
    search (arith, rules, g.F.Files.space, c.in-Err-Fault.ensures.whole.fault, why, get-remove_same)
