use Rattle.cq_audit.proofs.Terms.{rules, arith, sym, ◌∙◌, numbers_behind, one_ending}
use Rattle.cq_audit.proofs.LogLines.{parts_of_line}
use Rattle.cq_audit.proofs.transfer.take_transfer.Goals as goal

pub returns-in_err-count-clause-none : goal.returns-in_err-count-clause-none
returns-in_err-count-clause-none c = rw c.from_residual-in_err-count.ensures (λ t more is e.
    search (arith, rules, parts_of_line, c.in_err-count.ensures.none (numbers_behind t) more))

pub returns-in_err-transfer-clause-none : goal.returns-in_err-transfer-clause-none
returns-in_err-transfer-clause-none c = rw c.from_residual-in_err-transfer.ensures (λ t more is e.
    let parts = parts_of_line _ _ more _ t c.in_ok-slot.ensures.found e in
    let whole = c.in_ok-count.ensures.found.1 in
    c.in_err-transfer.ensures.none t is parts.0 (one_ending _ _ _ _ (sym whole ∙ parts.1)).0)
