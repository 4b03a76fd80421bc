use Rattle.cq_simulate.proofs.Terms.{◌-◌, ◌≤◌, All, vec_len, IsEmptied}
use Rattle.cq_simulate.proofs.packing.emptied.Given as goal

abbrev pub invariant-places : goal.invariant-places
invariant-places l =
    record { most : vec_len l.places ≤ l.ports; each : All (IsEmptied l.ports l.classes) l.places.items }

abbrev pub decreases-places : goal.decreases-places
decreases-places l = l.ports - vec_len l.places
