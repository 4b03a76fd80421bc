use Rattle.cq_lines.proofs.Terms.{arith, rules}
use Rattle.cq_lines.proofs.Walk.{one_read_more, no_next, no_end, ending_begun}
use Rattle.cq_lines.proofs.fields.take_fields.Goals as goal

pub fields-preserved : goal.fields-preserved
fields-preserved c = one_read_more _ _ _ _ _ _ _ c.fields.invariant (omega arith) c.in-Some.ensures
    c.in_ok-field.ensures.found

pub returns-in_err-field-clause-none : goal.returns-in_err-field-clause-none
returns-in_err-field-clause-none c = rw c.from_residual.ensures (λ fs more fit _ read. no_next _ _ _ _ _
    c.fields.invariant c.in-Some.ensures c.in_err-field.ensures.none fs more fit read)

pub returns-in_err-after-clause-none : goal.returns-in_err-after-clause-none
returns-in_err-after-clause-none c = rw c.from_residual-in_err-after.ensures (λ fs more _ _ read. no_end _ _ _ _
    c.fields.invariant c.in_default.ensures c.in_err-after.ensures fs more read)

pub returns-clause-found : goal.returns-clause-found
returns-clause-found c = search (arith, rules, ending_begun)
