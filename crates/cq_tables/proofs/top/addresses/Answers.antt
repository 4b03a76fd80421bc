use Rattle.cq_tables.proofs.Checks.{otherwise_holds, otherwise_later}
use Rattle.cq_tables.proofs.top.addresses.Goals as goal

pub returns-clause-held : goal.returns-clause-held
returns-clause-held c =
    let told = c.address_rows.ensures.held in
    otherwise_holds c.address_rows.result _ _ c.in_ok-values.ensures.held
    (rw (c.in_ok-values.ensures.value, c.requires) at told)

pub returns-clause-refused : goal.returns-clause-refused
returns-clause-refused c =
    let told = c.address_rows.ensures.refused in
    otherwise_later c.address_rows.result _ _ c.in_ok-values.ensures.held
    (rw (c.in_ok-values.ensures.value, c.requires) at told)
