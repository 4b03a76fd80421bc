-- What a list has, of whatever type: an item is the first, or one of the others. What holds of each item holds of
-- those that it has, and the other way; and so it is for two. And what places, joined lists, images and tests show of
-- it.
use Rattle.cq_base.proofs.Terms.{common_steps, arith, Bool, List, Some, [], ap, false, get_or, inl, inr, length, map, refl, suc, true, zero, ℕ, ⊎_elim, ◌++◌, ◌<◌, ◌∷◌, ◌≡◌, ◌⊎◌, cases_Bool, or_left, or_right, All-from_recursion, recursion_from_All, AllByRecursion, list_any, All, filter, slice_get}
use Rattle.cq_base.specs.Items.{EachPair, Has}

-- ## Each item

pub all_of_has : {X : Type 0} (P : X → Type 0) (xs : List X) (x : X) → AllByRecursion P xs → Has xs x → P x
all_of_has P [] x all has = absurd has
all_of_has P (y ∷ ys) x all has = grind (arith, common_steps, all_of_has P ys x)

pub all_from_has : {X : Type 0} (P : X → Type 0) (xs : List X) → ((x : X) → Has xs x → P x) → AllByRecursion P xs
all_from_has P [] each = tt
all_from_has P (y ∷ ys) each = (each y (inl refl), all_from_has P ys (λ x has. each x (inr has)))

-- and so it is where it is said by places
pub all_has : {X : Type 0} (P : X → Type 0) (xs : List X) (x : X) → All P xs → Has xs x → P x
all_has P xs x all has = all_of_has P xs x (recursion_from_All P xs all) has

pub has_all : {X : Type 0} (P : X → Type 0) (xs : List X) → ((x : X) → Has xs x → P x) → All P xs
has_all P xs each = All-from_recursion P xs (all_from_has P xs each)

pub none_had : {X : Type 0} (xs : List X) → ((x : X) → Has xs x → ⊥) → xs ≡ []
none_had [] none = refl
none_had (x ∷ xs) none = absurd (none x (inl refl))

-- ## Places

pub has_at : {X : Type 0} (xs : List X) (k : ℕ) (d : X) → k < length xs → Has xs (get_or xs k d)
has_at [] k d inside = absurd (omega arith)
has_at (x ∷ xs) k d inside = grind (arith, common_steps, has_at xs)

pub has_there : {X : Type 0} (xs : List X) (place : ℕ) (x : X) → slice_get xs place ≡ Some x → Has xs x
has_there [] place x is = absurd (let P : ⊥ = cc in P)
has_there (y ∷ ys) place x is = grind (arith, common_steps, has_there ys)

-- where an item stands
pub stands_at : {X : Type 0} (xs : List X) (x : X) → Has xs x → (place : ℕ) × (slice_get xs place ≡ Some x)
stands_at [] x has = absurd has
stands_at (y ∷ ys) x has = ⊎_elim (λ e. (zero, ap Some e)) (λ k. let r = stands_at ys x k in (suc r.0, r.1)) has

-- ## Joined lists, and images

pub has_left : {X : Type 0} (xs ys : List X) (x : X) → Has xs x → Has (xs ++ ys) x
has_left [] ys x has = absurd has
has_left (y ∷ xs) ys x has = grind (arith, common_steps, has_left xs ys x)

pub has_right : {X : Type 0} (xs ys : List X) (x : X) → Has ys x → Has (xs ++ ys) x
has_right [] ys x has = has
has_right (y ∷ xs) ys x has = inr (has_right xs ys x has)

pub has_cases : {X : Type 0} (xs ys : List X) (x : X) → Has (xs ++ ys) x → Has xs x ⊎ Has ys x
has_cases [] ys x has = inr has
has_cases (y ∷ xs) ys x has = grind (arith, common_steps, has_cases xs ys x)

pub has_image : {X Y : Type 0} (f : X → Y) (xs : List X) (x : X) → Has xs x → Has (map f xs) (f x)
has_image f [] x has = absurd has
has_image f (y ∷ xs) x has = grind (arith, common_steps, has_image f xs x)

pub image_has : {X Y : Type 0} (f : X → Y) (xs : List X) (y : Y) → Has (map f xs) y → (x : X) × Has xs x × (f x ≡ y)
image_has f [] y has = absurd has
image_has f (x ∷ xs) y has = grind (arith, common_steps, image_has f xs y)

-- ## Two that it has

pub pair_of_has : {X : Type 0} (R : X → X → Type 0) (xs : List X) (x y : X) → EachPair R xs → Has xs x → Has xs y →
    (R x y ⊎ R y x) ⊎ (x ≡ y)
pair_of_has R [] x y pairs first second = absurd first
pair_of_has R (z ∷ zs) x y pairs first second = grind (arith, common_steps, all_of_has, pair_of_has R zs x y)

-- ## What passes a test

module _ {X : Type 0} (p : X → Bool) where
  pub has_kept : (xs : List X) (x : X) → Has xs x → p x ≡ true → Has (filter p xs) x
  has_kept [] x has own = absurd has
  has_kept (y ∷ ys) x has own = grind (arith, common_steps, has_kept ys x)

  pub kept_has : (xs : List X) (x : X) → Has (filter p xs) x → Has xs x × (p x ≡ true)
  kept_has [] x has = absurd has
  kept_has (y ∷ ys) x has = grind (arith, common_steps, kept_has ys x)

  pub any_has : (xs : List X) (x : X) → Has xs x → p x ≡ true → list_any p xs ≡ true
  any_has [] x has is = absurd has
  any_has (z ∷ zs) x has is = grind (arith, common_steps, or_left, or_right, any_has zs x)

  pub has_any : (xs : List X) → list_any p xs ≡ true → (x : X) × Has xs x × (p x ≡ true)
  has_any [] holds = absurd (let clash : false ≡ true = holds in let P : ⊥ = cc in P)
  has_any (z ∷ zs) holds = grind (arith, common_steps, cases_Bool, has_any zs)

  -- one passes where all are alike, and there is one
  pub any_alike : (t : Bool) (xs : List X) (x : X) → Has xs x → ((y : X) → Has xs y → p y ≡ t) → list_any p xs ≡ t
  any_alike t xs x has alike = grind (arith, common_steps, cases_Bool, any_has xs x has, has_any xs, alike)
