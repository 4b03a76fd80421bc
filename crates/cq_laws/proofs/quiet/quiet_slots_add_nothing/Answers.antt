use Rattle.cq_laws.proofs.Terms.{arith, rules}
use Rattle.cq_laws.proofs.QuietSlots.{adds_nothing, quiet, quiet_run, empty_is, idled_once}
use Rattle.cq_laws.proofs.quiet.quiet_slots_add_nothing.Goals as goal

pub returns : goal.returns
returns c = search (arith, rules, quiet, quiet_run, adds_nothing, idled_once, empty_is)
