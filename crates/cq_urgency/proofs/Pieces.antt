-- Pieces of an array. The piece of n items from h on is take n (drop h xs). A part of the array that is written anew
-- leaves what stands ahead of it and behind it.
use Rattle.cq_urgency.proofs.Terms.{common_steps, rules, ◌≡◌, ℕ, ◌+◌, ◌-◌, ◌<◌, ◌≤◌, List, ◌∷◌, ◌++◌, length, set, take, drop, append_assoc, length-append, length-take, length-drop, arith, insert, take-take, take_at, drop-drop, drop-append-le, drop_more, drop_all, drop-take, take-paste, take_all, ◌∙◌, ap}

pub length_piece : {X : Type 0} (xs : List X) (h n : ℕ) → h + n ≤ length xs → length (take n (drop h xs)) ≡ n
length_piece xs h n inside = let few = length-take n (drop h xs) in let left = length-drop h xs in omega arith

-- a piece without its first items
pub behind : {X : Type 0} (xs : List X) (h k n m : ℕ) → n ≡ k + m →
    take m (drop (h + k) xs) ≡ drop k (take n (drop h xs))
behind xs h k n m sum = cc (drop-drop k h xs, drop-take k m (drop h xs))

-- ## Items turned by one place, and the first of them written

pub turned_on : {X : Type 0} (xs : List X) (y : X) → 0 < length xs →
    set (drop (length xs - 1) xs ++ take (length xs - 1) xs) 0 y ≡ y ∷ take (length xs - 1) xs
turned_on xs y some = search (arith, rules, drop_more xs (length xs - 1) y, drop_all ((length xs - 1) + 1) xs)

-- ## A part of the array written anew

ruleset parts = (take-take, drop-take, drop-drop, drop-append-le)

-- the cell and those behind it, one place on
pub put_on : {X : Type 0} (xs ys rest : List X) (y : X) (h n p m : ℕ) → p + m ≡ n → h + n ≤ length xs →
    ys ≡ y ∷ take m (drop (h + p) xs) →
    take (n + 1) (drop h (take (h + p) xs ++ (ys ++ rest))) ≡ insert (take n (drop h xs)) p y
put_on xs ys rest y h n p m sum inside is =
    search (arith, rules, length_piece, parts, length-take, append_assoc, length-append, take_at)

-- the same where the piece begins with the array
pub put_on_front : {X : Type 0} (xs ys rest : List X) (y : X) (n p m : ℕ) → p + m ≡ n → n ≤ length xs →
    ys ≡ y ∷ take m (drop p xs) → take (n + 1) (take p xs ++ (ys ++ rest)) ≡ insert (take n xs) p y
put_on_front xs ys rest y n p m sum inside = grind (arith, common_steps, put_on xs ys rest y 0 n p m sum)

pub ruleset piece_steps = (length_piece, take-take, take-paste, length-drop, take_all, put_on, put_on_front)

-- ## The second half of a full piece taken over

pub half_over : {X : Type 0} (xs ys front : List X) → length xs ≡ 64 → length ys ≡ 64 →
    front ≡ take (length ys - 32) (drop 32 ys) →
    (length (front ++ drop 32 xs) ≡ 64) × (take 32 (front ++ drop 32 xs) ≡ drop 32 ys)
half_over xs ys front long many is =
    let half = length-drop 32 ys in
    let rest = length-drop 32 xs in
    let same : front ≡ drop 32 ys = is ∙ take_all (length ys - 32) (drop 32 ys) (omega arith) in
    let size : length front ≡ 32 = ap length same ∙ omega arith in
    (omega (arith, length-append front (drop 32 xs)), take_at front (drop 32 xs) 32 size ∙ same)

pub ruleset half_steps = (half_over, length-append, length-drop, take_all)
