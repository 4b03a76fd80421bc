use Rattle.cq_tables.proofs.Walk.{Walked_apart}
use Rattle.cq_tables.proofs.addresses.address_rows.Given as goal

abbrev pub invariant-addresses : goal.invariant-addresses
invariant-addresses l = Walked_apart l.ports l.values l.index l.known.keys l.rows.items
