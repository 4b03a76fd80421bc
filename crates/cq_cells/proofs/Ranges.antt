-- Lists that are made number by number: what is found in them, and what holds of each two of their items.
use Rattle.cq_cells.proofs.Terms.{rules, ◌≡◌, ◌≢◌, ℕ, zero, suc, ◌+◌, ◌<◌, ◌≤◌, Bool, List, [], ◌∷◌, ◌++◌, map, flat_map, None, refl, set, arith, common_steps, range_with_len, find, cases_eq, find-append, map-id, get_or-set_same, get_or-set_other, length-set, map-range_with_len_more, fill_by_all, length-map-range_with_len, get_or-map-range_with_len, EachPair, Has, all_flat, all_from_has, all_made, all_of_has, pairs_joined}

-- the numbers up to the next one
pub range_more : (a n : ℕ) → range_with_len a (n + 1) ≡ range_with_len a n ++ (a + n) ∷ []
range_more a n = simp map-id at (map-range_with_len_more (λ (j : ℕ). j) a n (a + n) refl)

-- two functions that agree on the numbers make the same list
pub flat_same : {X : Type 0} (f g : ℕ → List X) (a n : ℕ) → ((j : ℕ) → a ≤ j → j < a + n → f j ≡ g j) →
    flat_map f (range_with_len a n) ≡ flat_map g (range_with_len a n)
flat_same f g a zero h = refl
flat_same f g a (suc n) h = grind (arith, common_steps, flat_same f g (a + 1) n)

-- nothing is found where no number has it
pub find_none : {X : Type 0} (p : X → Bool) (f : ℕ → List X) (a n : ℕ) →
    ((j : ℕ) → a ≤ j → j < a + n → find p (f j) ≡ None) → find p (flat_map f (range_with_len a n)) ≡ None
find_none p f a zero h = refl
find_none p f a (suc n) h = grind (arith, common_steps, find-append, flat_map, find_none p f (a + 1) n)

-- what is found at the one number that can have it
pub find_only : {X : Type 0} (p : X → Bool) (f : ℕ → List X) (a n k : ℕ) → a ≤ k → k < a + n →
    ((j : ℕ) → a ≤ j → j < a + n → j ≢ k → find p (f j) ≡ None) →
    find p (flat_map f (range_with_len a n)) ≡ find p (f k)
find_only p f a zero k from to h = absurd (omega arith)
find_only {X = X} p f a (suc n) k from to h =
    search (arith, rules, flat_map, cases_eq, find-append, find_none, find_only p f (a + 1) n k)

-- what holds of each two numbers of a row holds of what is told for them
pub pairs_made : {X : Type 0} (R : X → X → Type 0) (f : ℕ → X) (a n : ℕ) → ((j k : ℕ) → j < k → R (f j) (f k)) →
    EachPair R (map f (range_with_len a n))
pairs_made R f a zero each = tt
pairs_made R f a (suc n) each = search (arith, rules, all_made (R (f a)) f (a + 1) n, pairs_made R f (a + 1) n each)

pub pairs_flat : {X : Type 0} (R : X → X → Type 0) (f : ℕ → List X) (a n : ℕ) →
    ((k : ℕ) → EachPair R (f k)) → ((j k : ℕ) (x y : X) → j < k → Has (f j) x → Has (f k) y → R x y) →
    EachPair R (flat_map f (range_with_len a n))
pairs_flat R f a zero own across = tt
pairs_flat R f a (suc n) own across = pairs_joined R (f a) (flat_map f (range_with_len (a + 1) n))
    (own a) (pairs_flat R f (a + 1) n own across)
    (λ x y one two. all_of_has (R x) (flat_map f (range_with_len (a + 1) n)) y (all_flat (R x) f (a + 1) n
    (λ k low high. all_from_has (R x) (f k) (λ z has. across a k x z (omega arith) one has))) two)

-- one value that is written among those of the numbers
pub set_one : {X : Type 0} (f g : ℕ → X) (n i : ℕ) (y : X) → i < n → g i ≡ y → ((j : ℕ) → j < n → j ≢ i → g j ≡ f j) →
    set (map f (range_with_len 0 n)) i y ≡ map g (range_with_len 0 n)
set_one f g n i y inside own others =
    let all = fill_by_all g (set (map f (range_with_len 0 n)) i y) n y in
    let long = length-map-range_with_len f 0 n in
    search (arith, rules, all, long, length-set, cases_eq, get_or-set_same, get_or-set_other, get_or-map-range_with_len)
