-- The place of the item number k of those that pass a test. It is read one item at a time: an item that fails is
-- passed over, the first that passes is the answer for k = 0, and else leaves one less to look for. So it is the
-- place at which a second test is first met among those that pass the first.
use Rattle.cq_list.proofs.Terms.{length-remove, rules, ◌≡◌, ◌≢◌, ℕ, ◌+◌, ◌-◌, ◌<◌, ◌≤◌, eqb, Bool, true, false, cond, List, [], ◌∷◌, ◌++◌, length, get_or, drop, map, refl, ap, arith, common_steps, ◌&&◌, filter, position_or_len, eq-eqb, ne_eqb, cases_Bool, cases_eq, drop_more, drop_all, first_here, first_later, place_of_nth, is_output}

-- ## One item

pub passes : {X : Type 0} (p : X → Bool) (x : X) (xs : List X) → p x ≡ true → filter p (x ∷ xs) ≡ x ∷ filter p xs
passes p x xs e = ap (λ b. cond b (x ∷ filter p xs) (filter p xs)) e

pub fails : {X : Type 0} (p : X → Bool) (x : X) (xs : List X) → p x ≡ false → filter p (x ∷ xs) ≡ filter p xs
fails p x xs e = ap (λ b. cond b (x ∷ filter p xs) (filter p xs)) e

pub nth_other : {X : Type 0} (p : X → Bool) (k : ℕ) (x : X) (xs : List X) → p x ≡ false →
    place_of_nth p k (x ∷ xs) ≡ 1 + place_of_nth p k xs
nth_other p k x xs e = ap (λ b. cond (b && eqb k 0) 0 (1 + place_of_nth p (cond b (k - 1) k) xs)) e

pub nth_here : {X : Type 0} (p : X → Bool) (x : X) (xs : List X) → p x ≡ true → place_of_nth p 0 (x ∷ xs) ≡ 0
nth_here p x xs e = ap (λ b. cond (b && true) 0 (1 + place_of_nth p (cond b 0 0) xs)) e

pub nth_next : {X : Type 0} (p : X → Bool) (k : ℕ) (x : X) (xs : List X) → p x ≡ true →
    place_of_nth p (1 + k) (x ∷ xs) ≡ 1 + place_of_nth p k xs
nth_next p k x xs e = grind (arith, common_steps, ne_eqb)

ruleset nth_item = (passes, nth_here, nth_next, fails, nth_other)

-- the first place is the place of number 0
pub nth_is_first : {X : Type 0} (p : X → Bool) (xs : List X) → place_of_nth p 0 xs ≡ position_or_len p xs
nth_is_first p [] = refl
nth_is_first p (x ∷ xs) = search (rules, nth_here, first_here, nth_other, first_later, cases_Bool, nth_is_first p xs)

pub place_of_nth-map : {X Y : Type 0} (p : Y → Bool) (f : X → Y) (k : ℕ) (xs : List X) →
    place_of_nth p k (map f xs) ≡ place_of_nth (λ x. p (f x)) k xs
place_of_nth-map p f k [] = refl
place_of_nth-map p f k (x ∷ xs) = grind (arith, common_steps, place_of_nth-map p f (cond (p (f x)) (k - 1) k) xs)

-- ## Item by item

-- the item at a place is of another output
pub nth_past_other : (j k : ℕ) (xs : List ℕ) (i : ℕ) → i < length xs → get_or xs i 0 ≢ j →
    place_of_nth (is_output j) k (drop i xs) ≡ 1 + place_of_nth (is_output j) k (drop (i + 1) xs)
nth_past_other j k xs i h ne = grind (arith, common_steps, drop_more, nth_other, ne_eqb)

-- it is of this output, and one of those to be passed over
pub nth_past_own : (j k : ℕ) (xs : List ℕ) (i : ℕ) → i < length xs → get_or xs i 0 ≡ j →
    place_of_nth (is_output j) (1 + k) (drop i xs) ≡ 1 + place_of_nth (is_output j) k (drop (i + 1) xs)
nth_past_own j k xs i h e = grind (arith, common_steps, drop_more, nth_next, eq-eqb)

-- it is of this output, and the one that is looked for
pub nth_found : (j : ℕ) (xs : List ℕ) (i : ℕ) → i < length xs → get_or xs i 0 ≡ j →
    place_of_nth (is_output j) 0 (drop i xs) ≡ 0
nth_found j xs i h e = grind (arith, common_steps, drop_more, nth_here, eq-eqb)

pub nth_none_left : (j k : ℕ) (xs : List ℕ) (i : ℕ) → length xs ≤ i → place_of_nth (is_output j) k (drop i xs) ≡ 0
nth_none_left j k xs i h = ap (place_of_nth (is_output j) k) (drop_all i xs h)

-- ## Two tests

-- the first that passes two tests is, of those that pass the one, the number k, where k is its place among them
pub first_of_both : {X : Type 0} (p q : X → Bool) (xs : List X) →
    position_or_len (λ x. p x && q x) xs ≡ place_of_nth p (position_or_len q (filter p xs)) xs
first_of_both p q [] = refl
first_of_both {X} p q (x ∷ xs) = search (rules, first_here, first_later, cases_Bool, first_of_both p q xs)

-- the item number k is there where more than k pass
pub nth_inside : {X : Type 0} (p : X → Bool) (k : ℕ) (xs : List X) → k < length (filter p xs) →
    place_of_nth p k xs < length xs
nth_inside p k [] some = absurd (omega arith)
nth_inside p k (x ∷ xs) some = search (rules, cases_Bool, cases_eq, nth_inside p (k - 1) xs, nth_inside p k xs)

-- ## Two lists

pub nth_in_front : {X : Type 0} (p : X → Bool) (k : ℕ) (xs ys : List X) → k < length (filter p xs) →
    place_of_nth p k (xs ++ ys) ≡ place_of_nth p k xs
nth_in_front p k [] ys inside = absurd (omega arith)
nth_in_front p k (x ∷ xs) ys inside =
    search (arith, rules, nth_item, cases_Bool, cases_eq, nth_in_front p (k - 1) xs ys, nth_in_front p k xs ys)

pub nth_behind : {X : Type 0} (p : X → Bool) (k : ℕ) (xs ys : List X) → length (filter p xs) ≤ k →
    place_of_nth p k (xs ++ ys) ≡ length xs + place_of_nth p (k - length (filter p xs)) ys
nth_behind p k [] ys past = grind (arith, common_steps)
nth_behind p k (x ∷ xs) ys past =
    search (rules, passes, nth_next, fails, nth_other, cases_Bool, nth_behind p (k - 1) xs ys, nth_behind p k xs ys)

-- a place counted from the front
pub ruleset nth_steps = (nth_past_other, nth_past_own, nth_found, nth_none_left)

-- the first place taken out
pub ruleset remove_first_steps = (nth_inside, nth_in_front, nth_is_first, length-remove)
