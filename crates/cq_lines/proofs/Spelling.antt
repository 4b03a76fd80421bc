-- A number has one spelling, and a spelling is read in one way. The digits of a number say its value, so two numbers
-- with the same digits are one. Digits with more digits behind them say a greater number, and 0 stands at the front
-- of no other digit. So a text that goes on with digits behind those of one number begins with no lesser number, and
-- with none at all behind a 0.
use Rattle.cq_lines.proofs.Terms.{rules, ◌≡◌, ℕ, ◌+◌, ◌-◌, ◌*◌, ◌^◌, ◌<◌, ◌≤◌, ◌⊎◌, List, [], ◌∷◌, ◌++◌, map, get_or, Option, Some, refl, ap, sym, subst, ◌∙◌, arith, lit≤, append_assoc, IsInRange, number_from_digits_after, AllByRecursion, append-nil, number_digits_of, all_below_base_digits_of, first_digits_of, decimal, EndsDigits, BeginsWith, all_back, all_both, all_weaker, of_images, map-append, common_steps}
use Rattle.cq_base.proofs.Decimals.{decimal_small, decimal_above}
use Rattle.std.proofs.Math.ListN.{get_or-map}
use Rattle.std.proofs.lemmas.Int.Digits.{number_after_append, number_after_ge}

abbrev pub AreDigits : List ℕ → Type 0
AreDigits ds = AllByRecursion (IsInRange 48 57) ds

pub decimal_digits : (n : ℕ) → AreDigits (decimal n)
decimal_digits n =
    grind (arith, common_steps, decimal_small, decimal_above, of_images, all_weaker, all_below_base_digits_of 10 n)

-- ## What digits say

abbrev values : List ℕ → List ℕ
values cs = map (λ c. c - 48) cs

-- the number that digits say behind those of another
abbrev pub said_after : ℕ → List ℕ → ℕ
said_after n cs = number_from_digits_after 10 n (values cs)

values_back : (ds : List ℕ) → values (map (λ d. 48 + d) ds) ≡ ds
values_back [] = refl
values_back (d ∷ ds) = grind (arith, common_steps, values_back ds)

pub said_decimal : (n : ℕ) → said_after 0 (decimal n) ≡ n
said_decimal n = grind (arith, common_steps, decimal_above n, decimal_small, values_back, number_digits_of 10 n)

pub decimal_injective : (m n : ℕ) → decimal m ≡ decimal n → m ≡ n
decimal_injective m n e = sym (said_decimal m) ∙ ap (said_after 0) e ∙ said_decimal n

-- ## Where digits end

pub digits_go_on : (a b x y : List ℕ) → AreDigits a → AreDigits b → EndsDigits y → a ++ x ≡ b ++ y →
    (ds : List ℕ) × (b ≡ a ++ ds) × (x ≡ ds ++ y)
digits_go_on (c ∷ a) (d ∷ b) x y p q ends e = grind (arith, common_steps, digits_go_on a b x y p.1 q.1 ends)
digits_go_on a b x y p q ends e = grind (arith, common_steps)

nothing_goes_on : (ds x y : List ℕ) → AreDigits ds → EndsDigits x → x ≡ ds ++ y → ds ≡ []
nothing_goes_on [] x y p ends e = refl
nothing_goes_on (d ∷ ds) x y p ends e = absurd (subst EndsDigits e ends p.0)

-- the first digit of a number above 0 is not 0
first_digit : (n : ℕ) → 0 < n → 48 < get_or (decimal n) 0 48
first_digit n h = grind (arith, common_steps, decimal_above n h, get_or-map, first_digits_of 10 n)

-- digits with one more digit behind them say ten times their number at least, and are not those of 0
more_digits : (m n d : ℕ) (ds : List ℕ) → decimal n ≡ decimal m ++ (48 + d) ∷ ds → (0 < m) × (m * 10 + d ≤ n)
more_digits m n d ds e =
    let rest = number_after_ge 10 (m * 10 + ((48 + d) - 48)) (values ds) (lit≤ tt) in
    let above = first_digit n in
    grind (arith, common_steps, number_after_append, said_decimal n, said_decimal m, map-append, above, decimal_small)

-- ## What a text begins with

pub no_number : (text : List ℕ) → EndsDigits text → (n : ℕ) (rest : List ℕ) → BeginsWith text (Some n) rest → ⊥
no_number text ends n rest begins =
    search (arith, rules, nothing_goes_on, decimal_digits, said_decimal n, decimal_small)

pub one_number : (text x y : List ℕ) (m n : ℕ) → BeginsWith text (Some m) x → BeginsWith text (Some n) y →
    (m ≡ n) × (x ≡ y)
one_number text x y m n a b =
    let more = digits_go_on (decimal m) (decimal n) in
    let back = all_back (IsInRange 48 57) in
    search (arith, rules, more, back, decimal_digits, nothing_goes_on, decimal_injective, append-nil)

-- no number of 128 bits is spelled so: another digit stands behind a 0, or behind digits that say too much with it
pub none_goes_on : (text rest after : List ℕ) (m d : ℕ) → d < 10 → text ≡ decimal m ++ rest →
    rest ≡ (48 + d) ∷ after → (m ≡ 0) ⊎ (2 ^ 128 ≤ m * 10 + d) → (n : ℕ) (end : List ℕ) → n < 2 ^ 128 →
    BeginsWith text (Some n) end → ⊥
none_goes_on text rest after m d small e f why n end fits begins =
    let more = digits_go_on (decimal m ++ (48 + d) ∷ []) (decimal n) after end in
    grind (arith, common_steps, all_both (IsInRange 48 57), more, decimal_digits, append_assoc, more_digits m n d)

-- ## Fields

-- one text begins with one field
pub one_field : (text x y : List ℕ) (f g : Option ℕ) → BeginsWith text f x → BeginsWith text g y → (f ≡ g) × (x ≡ y)
one_field text x y (Some m) (Some n) a b = grind (arith, common_steps, one_number text x y m n a b)
one_field text x y f g a b = grind (arith, common_steps, no_number text)
