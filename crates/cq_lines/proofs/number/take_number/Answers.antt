use Rattle.cq_lines.proofs.Terms.{append_assoc, arith, rules}
use Rattle.cq_base.proofs.Decimals.{decimal_more, decimal_small}
use Rattle.cq_lines.proofs.Spelling.{no_number, none_goes_on}
use Rattle.cq_lines.proofs.number.take_number.Goals as goal

pub returns-in_err-first-clause-none : goal.returns-in_err-first-clause-none
returns-in_err-first-clause-none c = search (arith, rules, no_number)

pub digits-init : goal.digits-init
digits-init c = search (arith, rules, decimal_small)

pub returns-in_err-number-clause-none : goal.returns-in_err-number-clause-none
returns-in_err-number-clause-none c = rw c.from_residual-in_err-number.ensures (none_goes_on c.args.text.now
    c.digits.rest.now c.in-Some.after.now c.digits.number c.in-Some.digit c.in-Some.ensures.found.0
    c.digits.invariant c.in-Some.ensures.found.1 c.in_err-number.ensures.none)

pub digits-preserved : goal.digits-preserved
digits-preserved c = search (arith, rules, decimal_more, append_assoc)
