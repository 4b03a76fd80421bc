-- The digits of numbers. A number below a thousand has at most three digits, and from a hundred on the last two stand
-- behind those of its hundreds. So a number is put by its hundreds first, with a blank behind them, and then its last
-- two digits and a blank in place of that one.
use Rattle.cq_report.proofs.Terms.{rules, ◌≡◌, ℕ, ◌+◌, ◌-◌, ◌<◌, ◌≤◌, ◌/◌, ◌%◌, ◌^◌, List, [], ◌∷◌, ◌++◌, length, take, set, arith, append_assoc, length-append, lit≤, ap, common_steps, take-set_at, cases_lt, length-take-le, take-take, take_at, decimal_more, decimal_small, length-decimal-le, length-decimal_more}
use Rattle.cq_base.specs.Decimal.{decimal}

pub few_digits : (n : ℕ) → n < 2 ^ 64 → length (decimal n) ≤ 20
few_digits n below = let fits : n < 10 ^ 20 = omega arith in length-decimal-le 20 n (lit≤ tt) fits

pub some_digit : (n : ℕ) → 1 ≤ length (decimal n)
some_digit n = grind (arith, common_steps, decimal_small, length-decimal_more, cases_lt)

-- the hundreds, and then the last two digits
pub two_more : (n : ℕ) → 100 ≤ n →
    decimal n ≡ decimal (n / 100) ++ (48 + n % 100 / 10) ∷ (48 + n % 100 % 10) ∷ []
two_more n more = grind (arith, common_steps, decimal_more, append_assoc)

pub two_longer : (n : ℕ) → 100 ≤ n → length (decimal n) ≡ length (decimal (n / 100)) + 2
two_longer n more = grind (arith, common_steps, two_more, length-append)

-- ## What stands before a place

without_last : (bytes front : List ℕ) (end last : ℕ) → end ≤ length bytes → take end bytes ≡ front ++ last ∷ [] →
    take (end - 1) bytes ≡ front
without_last bytes front end last inside ends =
    let long = length-take-le end bytes inside in
    let one = length-append front (last ∷ []) in
    grind (arith, common_steps, ap length ends, take-take (end - 1) end bytes, take_at front (last ∷ []))

-- the last two digits in place of the blank
pub two_digits_behind : (n behind : ℕ) (front mid new : List ℕ) → 100 ≤ n → behind ≤ length mid →
    take behind mid ≡ front ++ (decimal (n / 100) ++ 32 ∷ []) →
    new ≡ take (behind - 1) mid ++ (48 + n % 100 / 10) ∷ (48 + n % 100 % 10) ∷ 32 ∷ [] →
    new ≡ front ++ (decimal n ++ 32 ∷ [])
two_digits_behind n behind front mid new more inside ends put =
    search (arith, rules, without_last mid (front ++ decimal (n / 100)) behind 32, append_assoc, two_more)

-- the line feed in place of the blank
pub line_feed_behind : (bytes front word : List ℕ) (end : ℕ) → 1 ≤ end → end ≤ length bytes →
    take end bytes ≡ front ++ (word ++ 32 ∷ []) → take end (set bytes (end - 1) 10) ≡ front ++ (word ++ 10 ∷ [])
line_feed_behind bytes front word end some inside ends =
    search (arith, rules, take-set_at bytes (end - 1) end 10, without_last bytes (front ++ word) end 32, append_assoc)

pub ruleset numeral_steps = (decimal_small, decimal_more)
