-- How a number is written digit by digit. A number below ten is one digit. Any other is the number without its last
-- digit, and then that digit, so it is one digit longer. A number below 2 ^ 128 is below 10 ^ 39, so it has at most 39
-- digits. A digit that is written right behind those at the front leaves what comes after it as it was.
use Rattle.cq_base.proofs.Terms.{rules, ◌≡◌, ℕ, ◌+◌, ◌*◌, ◌<◌, ◌≤◌, ◌/◌, ◌%◌, ◌^◌, List, [], ◌∷◌, ◌++◌, length, map, ap, arith, lit≤, zero, suc, set, drop, length-append, common_steps, digits_of, digits_of_step, length-digits_of-le, map-append, length-map, one-le-pow, drop_more, set_at}
use Rattle.cq_base.specs.Decimal.{decimal}

pub decimal_above : (n : ℕ) → 0 < n → decimal n ≡ map (λ d. 48 + d) (digits_of 10 n)
unfolding decimal
decimal_above n h = grind (arith, common_steps)

pub decimal_small : (n : ℕ) → n < 10 → decimal n ≡ (48 + n % 10) ∷ []
unfolding decimal
decimal_small n h = grind (arith, common_steps, decimal_above n, digits_of_step 10 n)

pub decimal_more : (n : ℕ) → 10 ≤ n → decimal n ≡ decimal (n / 10) ++ (48 + n % 10) ∷ []
decimal_more n h = grind (arith, common_steps, decimal_above, digits_of_step, map-append)

-- a number below a power of ten has no more digits than the power says
pub length-decimal-le : (most n : ℕ) → 1 ≤ most → n < 10 ^ most → length (decimal n) ≤ most
unfolding decimal
length-decimal-le most n some below = search (arith, rules, decimal_above, length-map, length-digits_of-le)

pub length-decimal : (n : ℕ) → n < 2 ^ 128 → length (decimal n) ≤ 39
length-decimal n h = let below : n < 10 ^ 39 = omega arith in length-decimal-le 39 n (lit≤ tt) below

pub length-decimal_more : (n : ℕ) → 10 ≤ n → length (decimal n) ≡ length (decimal (n / 10)) + 1
length-decimal_more n h = grind (arith, common_steps, decimal_more, length-append)

-- and with 10 ^ tens the least number of that many digits and one more
pub length-decimal_from : (tens n : ℕ) → 10 ^ tens ≤ n → n < 10 * 10 ^ tens → length (decimal n) ≡ tens + 1
length-decimal_from zero n from below = ap length (decimal_small n (omega arith))
length-decimal_from (suc tens) n from below =
    grind (arith, common_steps, one-le-pow tens 10, length-decimal_more n, length-decimal_from tens)

-- the digits after the last one was written behind the others
pub one_more_digit : (n count : ℕ) (to mid : List ℕ) → 10 ≤ n → count ≡ length (decimal (n / 10)) →
    count < length to → mid ≡ decimal (n / 10) ++ drop count to →
    set mid count (48 + n % 10) ≡ decimal n ++ drop (count + 1) to
one_more_digit n count to mid h c k m = grind (arith, common_steps, drop_more to count 0, set_at, decimal_more n h)

pub ruleset count_steps = (length-decimal_from, decimal_small)
