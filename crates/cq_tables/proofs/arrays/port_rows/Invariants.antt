use Rattle.cq_tables.proofs.Terms.{◌≤◌, IfSome, Ports, element_check, port_keys, port_kind, port_limit, port_row}
use Rattle.cq_tables.proofs.Walk.{Walked}
use Rattle.cq_tables.proofs.arrays.port_rows.Given as goal

abbrev pub invariant-elements : goal.invariant-elements
invariant-elements l =
    Walked (element_check Ports (λ _. port_keys)) port_row (λ row. Unit {0}) l.values l.index l.ports.files.items
    × (Walked (element_check Ports (λ _. port_keys)) port_kind (λ kind. Unit {0}) l.values l.index l.ports.kinds.items
    × Walked (element_check Ports (λ _. port_keys)) port_limit (λ limit. IfSome limit (λ n. 1 ≤ n))
    l.values l.index l.ports.limits.items)
