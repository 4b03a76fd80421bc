-- Digits that are read one after another. One more digit moves what is read up one place and fills the place that comes
-- free, so that in the end each counts as often as its place says. And a number of so many digits is below that power
-- of ten.
use Rattle.cq_words.proofs.Terms.{common_steps, rules, ◌≡◌, ℕ, List, ◌-◌, length, arith, ◌∙◌, ◌<◌, get_or, nat_tests, drop_more, drop_all, value_of, ◌+◌, ◌*◌, ◌^◌, [], ◌∷◌, add-one, fold, pow-suc}
use Rattle.cq_words.proofs.number.numeral.Goals as goal

-- what is read on over more digits
read_on : (v : ℕ) (text : List ℕ) →
    fold (λ n digit. n * 10 + (digit - 48)) v text ≡ v * 10 ^ length text + value_of text
unfolding value_of
read_on v [] = omega arith
read_on v (x ∷ rest) = read_on (v * 10 + (x - 48)) rest ∙ rw (pow-suc 10 (length rest)) (omega arith)

-- a digit more is a power more
below_more_digits : (i v d : ℕ) → v < 10 ^ i → d < 10 → v * 10 + d < 10 ^ (i + 1)
below_more_digits i v d small digit = rw (add-one i) (rw (pow-suc 10 i) (omega arith))

-- ## The walk

pub loop-digit-preserved : goal.loop-digit-preserved
loop-digit-preserved c =
    let digit : c.from.result ≡ get_or c.args.text.now c.loop-digit.digit-index 0 - 48 = search rules in
    let below : c.from.result < 10 = grind (arith, nat_tests) in
    let rest = drop_more c.args.text.now c.loop-digit.digit-index 0 in
    grind (arith, common_steps, rest, below_more_digits)

pub returns : goal.returns
returns c = grind
    (arith, common_steps, nat_tests, drop_all c.loop-digit.digit-index c.args.text.now, read_on 0 c.args.text.now)
