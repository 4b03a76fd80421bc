-- Lists that are new up to a place, and old from it on.
use Rattle.cq_fabric.proofs.Terms.{common_steps, rules, ◌≡◌, ℕ, ◌+◌, ◌<◌, ◌≤◌, List, length, map, get_or, set, drop, Some, ◌∙◌, arith, slice_get, enumerate_from, length-enumerate_from, get_or-enumerate_from, slice_get-get_or, at_end, at_place, changed_to, next_place, drop-drop, drop-set-lt, get_or-map, length-map, length-set, set-get_or, length-told, told_next}

-- one item more is written, and those behind it are as they were
pub still_behind : {X : Type 0} (now old : List X) (j : ℕ) (y : X) → drop j now ≡ drop j old →
    drop (j + 1) (set now j y) ≡ drop (j + 1) old
still_behind now old j y same = grind (arith, common_steps, drop-set-lt, drop-drop)

-- ## Lists of which each item is changed by its place

module _ {X : Type 0} (f : ℕ → X → X) (xs : List X) where
  pub length-by_place : length (map (λ at. f at.0 at.1) (enumerate_from 0 xs)) ≡ length xs
  length-by_place = length-map (enumerate_from 0 xs) (λ at. f at.0 at.1) ∙ length-enumerate_from 0 xs

  pub at-by_place : (i : ℕ) (d : X) → i < length xs →
      get_or (map (λ at. f at.0 at.1) (enumerate_from 0 xs)) i d ≡ f i (get_or xs i d)
  at-by_place i d inside =
      search (arith, rules, get_or-map, length-enumerate_from 0 xs, get_or-enumerate_from 0 xs i (0, d) inside)

-- the items before a place are changed, and the others are as they were
pub record IsChangedTo {X : Type 0} (f : ℕ → X → X) (xs : List X) (n : ℕ) (now : List X) : Type 0 where
  pub items : now ≡ changed_to (map (λ at. f at.0 at.1) (enumerate_from 0 xs)) xs n
  pub long : length now ≡ length xs

module _ {X : Type 0} {f : ℕ → X → X} {xs : List X} {n : ℕ} {now : List X} (so_far : IsChangedTo f xs n now) where
  -- a number that is less than this in each item is so in the next one, as it is read
  pub still_few : (number : X → ℕ) (d : X) → n < length xs → {most : ℕ} →
      ((i : ℕ) (x : X) → slice_get xs i ≡ Some x → number x < most) → {seen : List X} → seen ≡ now →
      number (get_or seen n d) < most
  still_few number d inside {most} all is = search (arith, rules, slice_get-get_or, at_place, length-by_place)

  -- it is changed
  pub next_changed : (d y : X) → n < length xs → (seen : List X) → seen ≡ now → y ≡ f n (get_or seen n d) →
      (more : List X) → more ≡ set now n y → IsChangedTo f xs (n + 1) more
  next_changed d y inside seen is one more put =
      let next = next_place (map (λ at. f at.0 at.1) (enumerate_from 0 xs)) xs n y d (length-by_place f xs) inside in
      search (arith, rules, next, at_place, length-by_place, at-by_place, length-set)

  -- or is what it would be
  pub next_kept : (d : X) → n < length xs → get_or now n d ≡ f n (get_or now n d) → (more : List X) → more ≡ now →
      IsChangedTo f xs (n + 1) more
  next_kept d inside same more is = search (rules, next_changed, set-get_or)

  pub all_changed : length xs ≤ n → now ≡ map (λ at. f at.0 at.1) (enumerate_from 0 xs)
  all_changed past = grind (arith, common_steps, at_end, length-by_place)

pub ruleset told_steps = (told_next, at_end, length-told)
