use Rattle.cq_tables.proofs.Checks.{otherwise_later}
use Rattle.cq_tables.proofs.top.rules.Goals as goal

pub returns-clause-refused : goal.returns-clause-refused
returns-clause-refused c =
    let told = c.rule_rows.ensures.refused in
    otherwise_later c.rule_rows.result _ _ c.in_ok-values.ensures.held
    (rw (c.in_ok-values.ensures.value, c.requires.ports, c.requires.classes) at told)
