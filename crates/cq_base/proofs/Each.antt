-- What holds of each in a list, of whatever type: of its parts, of what passes a test, of images, of what is told for
-- each number of a row. And of a list what is kept by a test, counted, found, or inserted in its images.
use Rattle.cq_base.proofs.Terms.{common_steps, ◌≡◌, ℕ, zero, suc, ◌+◌, ◌<◌, ◌≤◌, Bool, true, false, not, cond, List, [], ◌∷◌, ◌++◌, length, map, filter, flat_map, Some, refl, ap, arith, slice_get, insert, AllByRecursion, position_or_len, range_with_len, cond_both, map-append, map-range_with_len_more, take-map, drop-map, append_assoc, take_more}

module _ {X : Type 0} (P : X → Type 0) where
  pub all_both : (xs ys : List X) → AllByRecursion P xs → AllByRecursion P ys → AllByRecursion P (xs ++ ys)
  all_both [] ys first second = second
  all_both (x ∷ xs) ys first second = (first.0, all_both xs ys first.1 second)

  pub all_front : (xs ys : List X) → AllByRecursion P (xs ++ ys) → AllByRecursion P xs
  all_front [] ys all = tt
  all_front (x ∷ xs) ys all = (all.0, all_front xs ys all.1)

  pub all_back : (xs ys : List X) → AllByRecursion P (xs ++ ys) → AllByRecursion P ys
  all_back [] ys all = all
  all_back (x ∷ xs) ys all = all_back xs ys all.1

  pub all_filter : (p : X → Bool) (xs : List X) → AllByRecursion P xs → AllByRecursion P (filter p xs)
  all_filter p [] all = tt
  all_filter p (x ∷ xs) all = grind (arith, common_steps, cond_both, all_filter p xs all.1)

  -- what is told for each number of a row
  pub all_made : (f : ℕ → X) (a n : ℕ) → ((k : ℕ) → a ≤ k → k < a + n → P (f k)) →
      AllByRecursion P (map f (range_with_len a n))
  all_made f a zero each = tt
  all_made f a (suc n) each = grind (arith, common_steps, all_made f (a + 1) n)

  pub all_flat : (f : ℕ → List X) (a n : ℕ) → ((k : ℕ) → a ≤ k → k < a + n → AllByRecursion P (f k)) →
      AllByRecursion P (flat_map f (range_with_len a n))
  all_flat f a zero each = tt
  all_flat f a (suc n) each = grind (arith, common_steps, all_both, flat_map, all_flat f (a + 1) n)

pub all_weaker : {X : Type 0} (P Q : X → Type 0) → ((x : X) → P x → Q x) → (xs : List X) → AllByRecursion P xs →
    AllByRecursion Q xs
all_weaker P Q weaker [] all = tt
all_weaker P Q weaker (x ∷ xs) all = (weaker x all.0, all_weaker P Q weaker xs all.1)

pub all_give : {X : Type 0} (P Q S : X → Type 0) → ((x : X) → P x → Q x → S x) → (xs : List X) →
    AllByRecursion P xs → AllByRecursion Q xs → AllByRecursion S xs
all_give P Q S give [] p q = tt
all_give P Q S give (x ∷ xs) p q = (give x p.0 q.0, all_give P Q S give xs p.1 q.1)

-- what holds of all images, and of all items by their images
pub images_held : {X Y : Type 0} (f : X → Y) (P : Y → Type 0) (xs : List X) → AllByRecursion P (map f xs) →
    AllByRecursion (λ x. P (f x)) xs
images_held f P [] all = tt
images_held f P (x ∷ xs) all = (all.0, images_held f P xs all.1)

pub of_images : {X Y : Type 0} (f : X → Y) (P : Y → Type 0) (xs : List X) → AllByRecursion (λ x. P (f x)) xs →
    AllByRecursion P (map f xs)
of_images f P [] all = tt
of_images f P (x ∷ xs) all = (all.0, of_images f P xs all.1)

-- where all pass a test, or none does
module _ {X : Type 0} (p : X → Bool) where
  pub filter_all : (xs : List X) → AllByRecursion (λ x. p x ≡ true) xs → filter p xs ≡ xs
  filter_all [] all = refl
  filter_all (x ∷ xs) all = grind (arith, common_steps, cond_both, filter_all xs all.1)

  pub filter_none : (xs : List X) → AllByRecursion (λ x. p x ≡ false) xs → filter p xs ≡ []
  filter_none [] none = refl
  filter_none (x ∷ xs) none = grind (arith, common_steps, cond_both, filter_none xs none.1)

-- no more pass a test than there are
pub few_kept : {X : Type 0} (p : X → Bool) (xs : List X) → length (filter p xs) ≤ length xs
few_kept p [] = omega arith
few_kept p (x ∷ xs) = grind (arith, common_steps, few_kept p xs)

pub position_or_len-map : {X Y : Type 0} (p : Y → Bool) (f : X → Y) (xs : List X) →
    position_or_len p (map f xs) ≡ position_or_len (λ x. p (f x)) xs
position_or_len-map p f [] = refl
position_or_len-map p f (x ∷ xs) = ap (λ n. cond (not (p (f x))) (1 + n) 0) (position_or_len-map p f xs)

pub map-insert : {X Y : Type 0} (f : X → Y) (xs : List X) (i : ℕ) (x : X) →
    map f (insert xs i x) ≡ insert (map f xs) i (f x)
map-insert f xs i x = grind (arith, common_steps, map-append, take-map, drop-map)

-- one more of what is told for each number
pub counted_more : {X : Type 0} (f : ℕ → X) (n : ℕ) (xs ys : List X) (x : X) → xs ≡ map f (range_with_len 0 n) →
    ys ≡ xs ++ x ∷ [] → x ≡ f n → ys ≡ map f (range_with_len 0 (n + 1))
counted_more {X} f n xs ys x before pushed is = grind (arith, common_steps, map-range_with_len_more)

-- a place within the list shows one
pub one_there : {X : Type 0} (xs : List X) (k : ℕ) → k < length xs → (x : X) × (slice_get xs k ≡ Some x)
one_there [] k inside = absurd (omega arith)
one_there (x ∷ xs) zero inside = (x, refl)
one_there (x ∷ xs) (suc k) inside = one_there xs k (omega arith)

pub ruleset pack_steps = (map-append, append_assoc, take_more)
