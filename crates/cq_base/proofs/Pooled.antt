-- What holds of each two items of a list, of whatever type: by places, of joined lists, of what passes a test, of
-- images and of what is looked up. Of two lists in order that have the same items, the first of the one is an item of
-- the other and no later than its first, and the other way round: so their firsts are one, and then the others. And no
-- more items than a pool has, where each item stands for one of the pool and no two stand for the same. So items with
-- different numbers below a bound are no more than the bound.
use Rattle.cq_base.proofs.Terms.{common_steps, arith, rules, Bool, List, Option, Some, [], ap, inl, inr, length, map, refl, suc, true, zero, ℕ, ◌++◌, ◌+◌, ◌<◌, ◌∷◌, ◌≡◌, ◌≢◌, ◌≤◌, ◌⊎◌, cases_eq, All-from_recursion, recursion_from_All, length-range_with_len, AllPairs-cons, AllByRecursion, AllPairs, filter_map, range_with_len, filter, slice_get}
use Rattle.cq_base.proofs.Each.{all_both, all_front, all_weaker, images_held, of_images}
use Rattle.cq_base.proofs.Having.{all_from_has, all_of_has, has_right, kept_has, none_had}
use Rattle.cq_base.specs.Items.{EachPair, Has}

-- ## A pool

-- a pool without one of its items
record Without {X : Type 0} (pool : List X) (x : X) : Type 0 where
  pub left : List X
  pub fewer : length pool ≡ suc (length left)
  pub others : (y : X) → Has pool y → (y ≡ x) ⊎ Has left y

without : {X : Type 0} (pool : List X) (x : X) → Has pool x → Without pool x
without [] x has = absurd has
without (y ∷ ys) x (inl same) = record { left = ys; fewer = refl; others = λ z has. search (arith, rules) }
without (y ∷ ys) x (inr later) =
    let it = without ys x later in record
    { left = y ∷ it.left; fewer = ap suc it.fewer; others = search (arith, rules) }

module _ {A B : Type 0} (R : A → B → Type 0) where
  -- two items stand for nothing together
  abbrev pub AreApart : A → A → Type 0
  AreApart x y = (b : B) → R x b → R y b → ⊥

  -- the item stands for one of the pool
  pub record Stands (pool : List B) (x : A) : Type 0 where
    pub one : B
    pub has : Has pool one
    pub own : R x one

  pub no_more : (xs : List A) (pool : List B) → EachPair AreApart xs → AllByRecursion (Stands pool) xs →
      length xs ≤ length pool
  no_more [] pool pairs all = omega arith
  no_more (x ∷ xs) pool pairs all =
      let w = without pool all.0.one all.0.has in
      search (arith, rules, no_more xs w.left, all_from_has, all_of_has)

-- ## Pairs

pub each_pair : {X : Type 0} (R : X → X → Type 0) (xs : List X) → AllPairs R xs → EachPair R xs
each_pair R [] pairs = tt
each_pair R (x ∷ xs) pairs = (
  recursion_from_All (R x) xs (λ k d inside. pairs zero (suc k) d (omega arith) (omega arith)),
  each_pair R xs (λ i j d lt inside. pairs (suc i) (suc j) d (omega arith) (omega arith)),
)

pub all_pairs : {X : Type 0} (R : X → X → Type 0) (xs : List X) → EachPair R xs → AllPairs R xs
all_pairs R [] pairs = λ i j d lt inside. absurd (omega arith)
all_pairs R (x ∷ xs) pairs = grind (arith, common_steps, AllPairs-cons, All-from_recursion, all_pairs R xs pairs.1)

module _ {X : Type 0} (R : X → X → Type 0) where
  pub pairs_left : (xs ys : List X) → EachPair R (xs ++ ys) → EachPair R xs
  pairs_left [] ys pairs = tt
  pairs_left (x ∷ xs) ys pairs = (all_front (R x) xs ys pairs.0, pairs_left xs ys pairs.1)

  pub pairs_right : (xs ys : List X) → EachPair R (xs ++ ys) → EachPair R ys
  pairs_right [] ys pairs = pairs
  pairs_right (x ∷ xs) ys pairs = pairs_right xs ys pairs.1

  -- of the first list and of the second
  pub pairs_cross : (xs ys : List X) (x y : X) → EachPair R (xs ++ ys) → Has xs x → Has ys y → R x y
  pairs_cross [] ys x y pairs first second = absurd first
  pairs_cross (z ∷ zs) ys x y pairs first second =
      search (arith, rules, all_of_has (R z) (zs ++ ys) y, has_right, pairs_cross zs ys x y pairs.1)

  -- of two lists, and from the first to the second
  pub pairs_joined : (xs ys : List X) → EachPair R xs → EachPair R ys → ((x y : X) → Has xs x → Has ys y → R x y) →
      EachPair R (xs ++ ys)
  pairs_joined [] ys first second across = second
  pairs_joined (x ∷ xs) ys first second across =
      grind (arith, common_steps, all_both, all_from_has, pairs_joined xs ys first.1 second)

  pub pairs_with : (S : X → X → Type 0) (P : X → Type 0) → ((x y : X) → P x → P y → R x y → S x y) → (xs : List X) →
      AllByRecursion P xs → EachPair R xs → EachPair S xs
  pairs_with S P gives [] all pairs = tt
  pairs_with S P gives (x ∷ xs) all pairs =
      grind (arith, common_steps, all_from_has, all_of_has, gives, pairs_with S P gives xs)

  pub pairs_kept : (p : X → Bool) (xs : List X) → EachPair R xs → EachPair R (filter p xs)
  pairs_kept p [] pairs = tt
  pairs_kept p (x ∷ xs) pairs = grind (arith, common_steps, all_from_has, all_of_has, kept_has, pairs_kept p xs)

  -- two that pass a test
  pub pairs_kept_with : (S : X → X → Type 0) (p : X → Bool) →
      ((x y : X) → p x ≡ true → p y ≡ true → R x y → S x y) → (xs : List X) → EachPair R xs → EachPair S (filter p xs)
  pairs_kept_with S p gives xs = search (rules, pairs_with S (λ x. p x ≡ true), all_from_has, kept_has, pairs_kept)

-- where the relation never holds both ways, two lists of which it holds and that have the same items are one
pub same_pairs : {X : Type 0} (R : X → X → Type 0) → ((x y : X) → R x y → R y x → ⊥) → (xs ys : List X) →
    EachPair R xs → EachPair R ys → ((x : X) → Has xs x → Has ys x) → ((y : X) → Has ys y → Has xs y) → xs ≡ ys
same_pairs R never (x ∷ xs) (y ∷ ys) up rising to from =
    search (arith, rules, all_of_has, never, to x (inl refl), from y (inl refl), same_pairs R never xs ys up.1 rising.1)
same_pairs R never xs ys up rising to from = search (rules, none_had, to, from)

-- of images, and the other way
pub pairs_mapped : {X Y : Type 0} (f : X → Y) (R : Y → Y → Type 0) (xs : List X) → EachPair (λ a b. R (f a) (f b)) xs →
    EachPair R (map f xs)
pairs_mapped f R [] pairs = tt
pairs_mapped f R (x ∷ xs) pairs = (of_images f (R (f x)) xs pairs.0, pairs_mapped f R xs pairs.1)

pub pairs_of_images : {X Y : Type 0} (f : X → Y) (R : Y → Y → Type 0) (xs : List X) → EachPair R (map f xs) →
    EachPair (λ a b. R (f a) (f b)) xs
pairs_of_images f R [] pairs = tt
pairs_of_images f R (x ∷ xs) pairs = (images_held f (R (f x)) xs pairs.0, pairs_of_images f R xs pairs.1)

-- ## Items that are looked up

module _ {A B : Type 0} (f : A → Option B) where
  -- what is looked up stands for one of the list
  pub record LookedUp (xs : List A) (y : B) : Type 0 where
    pub origin : A
    pub has : Has xs origin
    pub is : f origin ≡ Some y

  pub looked_up : (xs : List A) (y : B) → Has (filter_map f xs) y → LookedUp xs y
  looked_up [] y has = absurd has
  looked_up (x ∷ xs) y has = grind (arith, common_steps, looked_up xs y)

  pub has_looked_up : (xs : List A) (x : A) (y : B) → Has xs x → f x ≡ Some y → Has (filter_map f xs) y
  has_looked_up [] x y has is = absurd has
  has_looked_up (z ∷ zs) x y has is = grind (arith, common_steps, has_looked_up zs x y)

  pub pairs_looked_up : (R : A → A → Type 0) (S : B → B → Type 0) →
      ((x y : A) (a b : B) → R x y → f x ≡ Some a → f y ≡ Some b → S a b) → (xs : List A) → EachPair R xs →
      EachPair S (filter_map f xs)
  pairs_looked_up R S gives [] pairs = tt
  pairs_looked_up R S gives (x ∷ xs) pairs =
      search (arith, rules, all_from_has, looked_up xs, all_of_has (R x) xs, pairs_looked_up R S gives xs pairs.1)

  -- no more pass a test when they are looked up than pass another one before
  pub kept_few : (p : B → Bool) (q : A → Bool) → ((x : A) (y : B) → f x ≡ Some y → p y ≡ true → q x ≡ true) →
      (xs : List A) → length (filter p (filter_map f xs)) ≤ length (filter q xs)
  kept_few p q gives [] = omega arith
  kept_few p q gives (x ∷ xs) = grind (arith, common_steps, gives, kept_few p q gives xs)

  pub looked_few : (xs : List A) → length (filter_map f xs) ≤ length xs
  looked_few [] = omega arith
  looked_few (x ∷ xs) = grind (arith, common_steps, looked_few xs)

-- ## Places

-- an image at a place is the image of one
pub image_at : {A B : Type 0} (f : A → B) (xs : List A) (i : ℕ) (y : B) → slice_get (map f xs) i ≡ Some y →
    (x : A) × (f x ≡ y)
image_at f [] i y is = absurd (let P : ⊥ = cc in P)
image_at f (x ∷ xs) i y is = grind (arith, common_steps, image_at f xs)

-- ## Numbers

pub has_number : (a n k : ℕ) → a ≤ k → k < a + n → Has (range_with_len a n) k
has_number a zero k low high = absurd (omega arith)
has_number a (suc n) k low high = grind (arith, common_steps, cases_eq, has_number (a + 1) n k)

-- different numbers below a bound
pub numbers_few : {A : Type 0} (f : A → ℕ) (xs : List A) (n : ℕ) → EachPair (λ x y. f x ≢ f y) xs →
    AllByRecursion (λ x. f x < n) xs → length xs ≤ n
numbers_few {A} f xs n pairs below =
    let At : A → ℕ → Type 0 = λ x k. f x ≡ k in
    search (arith, rules, no_more At xs (range_with_len 0 n), length-range_with_len, pairs_with, all_weaker, has_number)
