use Rattle.cq_slot_trials.proofs.Terms.{sym, subst, AreForPorts}
use Rattle.cq_slot_trials.proofs.Arriving.{for_ports_none}
use Rattle.cq_slot_trials.proofs.tests.coming.Coming.nothing.Goals as goal

pub invariant_of-result : goal.invariant_of-result
invariant_of-result g c =
    let ports = g.row.PORTS in
    record { for_ports = subst (AreForPorts ports 2) (sym c.none.ensures) (for_ports_none ports 2) }
