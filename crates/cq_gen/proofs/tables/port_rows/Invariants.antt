use Rattle.cq_gen.proofs.Terms.{◌≡◌, replicate, soak_port}
use Rattle.cq_gen.proofs.tables.port_rows.Given as goal

abbrev pub invariant-ports : goal.invariant-ports
invariant-ports l = l.rows.items ≡ replicate l.counter soak_port
