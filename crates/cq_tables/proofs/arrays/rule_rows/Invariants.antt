use Rattle.cq_tables.proofs.Terms.{◌<◌, IfSome, Rules, element_check, rule_keys, rule_row}
use Rattle.cq_tables.proofs.Walk.{Walked}
use Rattle.cq_tables.proofs.arrays.rule_rows.Given as goal

abbrev pub invariant-rules : goal.invariant-rules
invariant-rules l = Walked (element_check Rules (λ _. rule_keys l.ports l.classes)) rule_row
    (λ row. IfSome row.input (λ input. input < l.ports) × (row.class < l.classes)) l.values l.index l.rows.items
