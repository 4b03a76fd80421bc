use Rattle.cq_tables.proofs.Terms.{IfErr, map, rules, view, Classes, Refuses, each, first, class_keys, element_check}
use Rattle.cq_tables.proofs.Checks.{otherwise_later}
use Rattle.cq_tables.proofs.top.classes.Goals as goal

pub returns-in_err-rows-clause-refused : goal.returns-in_err-rows-clause-refused
returns-in_err-rows-clause-refused c =
    let told : IfErr c.from_residual-in_err-rows.result (Refuses (first (each
    (element_check Classes (λ _. class_keys c.args.version)) 0 (map view c.in_ok-values.values.now)))) = search rules in
    otherwise_later c.from_residual-in_err-rows.result _ _ c.in_ok-values.ensures.held
    (rw (c.in_ok-values.ensures.value, c.requires) at told)
