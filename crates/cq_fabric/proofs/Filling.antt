-- Cells that come into an empty list or an empty buffer in the order in which they are to stand. Each finds those
-- ahead of it alone: in a list all more urgent cells for its output stand there, and no less urgent one, so that it
-- goes in at the end; in a buffer all have lesser keys.
use Rattle.cq_fabric.proofs.Terms.{rules, ◌≡◌, ◌≢◌, ℕ, zero, suc, ◌+◌, ◌<◌, List, [], ◌∷◌, ◌++◌, length, map, get_or, take, refl, ap, ◌∙◌, arith, common_steps, AllByRecursion, eqb-true, drop_all, get_or-map, length-map, length-take-le, take_all, take_more, All-from_recursion, Queued, EachPair, HasOtherKey, IsBefore, IsRising, MoreUrgentAhead, place_of_later, put, with_arrival, key_laws, ahead_of_end, first_later, Waiting, take_next, map_next, map_same, get_or_read, not_before_itself}
use Rattle.cq_fabric.specs.Holding.{CanWait}

-- ## A cell behind those that stand before its place

-- what holds of each cell and each behind it holds of those before a place and the one that stands there
before_place : (R : Queued → Queued → Type 0) (cells : List Queued) (i : ℕ) (d : Queued) → i < length cells →
    EachPair R cells → AllByRecursion (λ x. R x (get_or cells i d)) (take i cells)
before_place R [] i d inside pairs = absurd (omega arith)
before_place R (c ∷ cells) zero d inside pairs = tt
before_place R (c ∷ cells) (suc i) d inside pairs = search (rules, All-from_recursion, before_place R cells i d)

-- ## The end of a list

none_later : (c : Queued) (xs : List Queued) →
    AllByRecursion (λ x. x.cell.output ≡ c.cell.output → IsBefore x c) xs → place_of_later c xs ≡ length xs
none_later c [] all = refl
none_later c (x ∷ xs) all = grind (arith, common_steps, first_later, eqb-true, key_laws.one_way, none_later c xs all.1)

-- the cell at a place of the cells that a list is to have, once those before it are there
module _ (outputs most : ℕ) (cells : List Queued) (wait : CanWait outputs most cells) (at : ℕ)
    (inside : at < length cells) (d : Queued) (w : Waiting) (so_far : w.cells ≡ take at cells) where
  long : length w.cells ≡ at
  long = ap length so_far ∙ length-take-le at cells (omega arith)

  pub comes_in_range : w.outputs ≡ outputs → (get_or cells at d).cell.output < w.outputs
  comes_in_range same = grind (arith, common_steps, All-from_recursion)

  pub comes_anew : HasOtherKey (get_or cells at d) w.cells
  comes_anew = rw so_far (before_place (λ a b. a.key ≢ b.key) cells at d inside wait.differ)

  pub comes_behind : MoreUrgentAhead at (get_or cells at d) w.cells
  comes_behind = ahead_of_end at (get_or cells at d) w.cells (let l = long in omega arith)

  pub comes_last : with_arrival at (get_or cells at d) w.cells ≡ take (at + 1) cells
  comes_last =
      let order = before_place (λ a b. a.cell.output ≡ b.cell.output → IsBefore a b) cells at d inside wait.order in
      search (arith, rules, long, none_later, take_all, drop_all, take_more cells at d inside)

-- ## The end of a buffer

other_keys : (c : Queued) (xs : List Queued) → AllByRecursion (λ x. IsBefore x c) xs → HasOtherKey c xs
other_keys c [] all = tt
other_keys c (x ∷ xs) all = grind (arith, common_steps, not_before_itself, other_keys c xs all.1)

put_last : (c : Queued) (xs : List Queued) → AllByRecursion (λ x. IsBefore x c) xs → put c xs ≡ xs ++ c ∷ []
put_last c [] all = refl
put_last c (x ∷ xs) all = grind (arith, common_steps, key_laws.one_way, put_last c xs all.1)

-- the cell at a place of the cells that a buffer is to have, once those before it are there
module _ (cells : List Queued) (rising : IsRising cells) (at : ℕ) (inside : at < length cells) (d : Queued)
    (xs : List Queued) (so_far : xs ≡ take at cells) where
  pub stands_anew : HasOtherKey (get_or cells at d) xs
  stands_anew = grind (arith, common_steps, other_keys, before_place IsBefore cells at d inside rising)

  pub stands_last : put (get_or cells at d) xs ≡ take (at + 1) cells
  stands_last =
      search (arith, rules, put_last, before_place IsBefore cells at d inside rising, take_more cells at d inside)

-- ## What waits

-- the cells of one item behind those of the items before it
pub one_told : {X : Type 0} (f : X → List Queued) (items : List X) (i : ℕ) (x : X) (all more : List (List Queued))
    (cells : List Queued) → all ≡ take i (map f items) → more ≡ all ++ cells ∷ [] → i < length items →
    x ≡ get_or items i x → cells ≡ f x → more ≡ take (i + 1) (map f items)
one_told f items i x all more cells so_far is inside read told =
    let nil = [] in search (arith, rules, take_next, length-map, get_or-map f items i x nil)

pub ruleset fill_steps = (stands_anew, take_all)

-- what stands beside a room is what one item more is made of
pub ruleset filled_steps = (get_or_read, map_next, map_same, take_all)
