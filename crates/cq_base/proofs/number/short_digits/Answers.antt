use Rattle.cq_base.proofs.Terms.{append_assoc, arith, drop-set, drop-set_at, length-set, rules}
use Rattle.cq_base.proofs.Decimals.{decimal_more, decimal_small, length-decimal, length-decimal_more}
use Rattle.cq_base.proofs.number.short_digits.Goals as goal

pub overflow_sub-end : goal.overflow_sub-end
overflow_sub-end c = omega (arith, length-decimal_more c.places.left c.places-test.true, c.places.invariant.1)

-- one less is left where a digit is written right before those that stand there
pub places-preserved : goal.places-preserved
places-preserved c =
    let most = length-decimal c.places.left in
    search (arith, rules, length-set, most, length-decimal_more, drop-set, append_assoc, decimal_more)

pub returns-clause-text : goal.returns-clause-text
returns-clause-text c = search (arith, rules, drop-set_at, decimal_small)
