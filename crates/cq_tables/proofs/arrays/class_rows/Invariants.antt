use Rattle.cq_tables.proofs.Terms.{◌<◌, ◌≤◌, Classes, class_keys, class_row, element_check}
use Rattle.cq_tables.proofs.Walk.{Walked}
use Rattle.cq_tables.proofs.arrays.class_rows.Given as goal

abbrev pub invariant-classes : goal.invariant-classes
invariant-classes l = Walked (element_check Classes (λ _. class_keys l.version)) (class_row l.version)
    (λ row. (row.level < 16) × (1 ≤ row.cost)) l.values l.index l.rows.items
