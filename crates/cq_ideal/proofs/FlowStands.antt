-- What stands in an output's list while the arrivals of a slot are put into it, input by input. The list stands in
-- order: no cell is more urgent than one before it. A cell is put before the first that is less urgent than it, so
-- the order stays; and where no cell of some kind is less urgent than a new one of that kind, none of them stands
-- behind it, since all behind it are less urgent. So of that kind the new cell is the last, and of any other kind
-- the list shows what it showed. The cells of a class are such a kind: each that waits has the class's level and a
-- rank no greater than the class's floor, and it came in an earlier slot, or in this one at an earlier input; a new
-- one gets a rank no less than the floor. That rank becomes the floor, and no other class's floor falls. A cell for
-- another output changes neither the list nor the machine's state here. So of each flow the list shows what it
-- showed before the slot, and then what arrives of it.
use Rattle.cq_ideal.proofs.Terms.{common_steps, rules, ◌≡◌, ℕ, ◌+◌, ◌<◌, ◌≤◌, Bool, List, [], ◌∷◌, ◌++◌, length, map, arith, ⊎_elim, ◌&&◌, ◌==◌, AllByRecursion, filter, cond_both, ltb-true, eqb-true, cond-true, cond-false, cases_Bool, eq-eqb, and_parts, and_from, and_right, Cell, Queued, is_before, EachPair, put, Machine, KeepsLaws, all_put, append-nil, map-append, all_weaker, true, false, both_ways, false_from_ne_true, filter_none, cond, Option, Some, None, Result, Ok, Err, slice_index_or, cases_eq, ne_eqb, and_left, get_or-set_other, append_assoc, TagFault, is_for, machine_at, Ranking, ranking, after_input, keyed, put_all, given_at, level_at, rank_at}
use Rattle.cq_rank.proofs.Floors.{given_floor}
use Rattle.cq_base.specs.declared.key.Key.{Key}
use Rattle.cq_base.proofs.Keys.{key_laws}

-- the second cell is not the more urgent
abbrev pub NoLater : Queued → Queued → Type 0
NoLater a b = is_before b.key a.key ≡ false

-- what is before a cell is before each that is not more urgent than that one
before_later : (n x y : Key) → is_before n x ≡ true → is_before y x ≡ false → is_before n y ≡ true
before_later n x y h k = grind (arith, common_steps, cases_Bool, both_ways, key_laws.on, key_laws.alike)

-- the list stays in order
pub in_order_put : (n : Queued) (xs : List Queued) → EachPair NoLater xs → EachPair NoLater (put n xs)
in_order_put n [] e = (tt, tt)
in_order_put n (x ∷ xs) e =
    grind (arith, common_steps, all_put, all_weaker, key_laws.one_way, before_later, in_order_put n xs)

-- ## What a list shows of one kind

module _ (p : Queued → Bool) (n : Queued) where
  -- a new cell of another kind
  pub filter-put_other : (xs : List Queued) → p n ≡ false → filter p (put n xs) ≡ filter p xs
  filter-put_other [] h = cond-false (p n) (n ∷ []) [] h
  filter-put_other (x ∷ xs) h = grind (arith, common_steps, cond_both, cond-false, filter-put_other xs h)

  -- none of the kind stands behind a cell that the new one is before
  none_behind : (x : Queued) (xs : List Queued) → is_before n.key x.key ≡ true → AllByRecursion (NoLater x) xs →
      AllByRecursion (λ y. p y ≡ true → NoLater y n) xs → AllByRecursion (λ y. p y ≡ false) xs
  none_behind x [] h a b = tt
  none_behind x (y ∷ xs) h a b =
      grind (arith, common_steps, false_from_ne_true, both_ways, before_later, none_behind x xs h a.1 b.1)

  -- a new cell of the kind, of which none is less urgent
  pub filter-put : (xs : List Queued) → p n ≡ true → EachPair NoLater xs →
      AllByRecursion (λ x. p x ≡ true → NoLater x n) xs → filter p (put n xs) ≡ filter p xs ++ n ∷ []
  filter-put [] h e a = cond-true (p n) (n ∷ []) [] h
  filter-put (x ∷ xs) h e a = grind (arith, common_steps, filter_none, none_behind, filter-put xs h e.1 a.1)

-- ## What stands in a list

-- what is known of a waiting cell, in this slot before this input's arrival, where the machine is in this state
pub record HasWaited (m : Machine) (state : List ℕ) (slot input : ℕ) (x : Queued) : Type 0 where
  pub level : x.key.level ≡ m.level x.cell.class
  pub rank : x.key.rank ≤ m.floor state x.cell.class
  pub class : x.cell.class < m.classes
  pub came : x.key.slot ≤ slot
  pub before : x.key.slot ≡ slot → x.key.input < input

-- what is known of an output's list
pub record Stands (m : Machine) (state : List ℕ) (slot input : ℕ) (xs : List Queued) : Type 0 where
  pub size : length state ≡ m.size
  pub order : EachPair NoLater xs
  pub waited : AllByRecursion (HasWaited m state slot input) xs

-- whether the cell is of this input and class
abbrev pub is_kind : ℕ → ℕ → Queued → Bool
is_kind i c x = x.cell.id.input == i && x.cell.class == c

-- the cells of this input and class in a list
abbrev pub shown : ℕ → ℕ → List Queued → List Cell
shown i c xs = map (λ x. x.cell) (filter (is_kind i c) xs)

-- whether the cell is of the flow
abbrev pub is_of_flow : ℕ → ℕ → ℕ → Cell → Bool
is_of_flow i c j cell = cell.output == j && (cell.id.input == i && cell.class == c)

-- the cells of the flow in a list
unfoldable pub of_flow : ℕ → ℕ → ℕ → List Cell → List Cell
of_flow i c j cells = filter (is_of_flow i c j) cells

-- ## One cell more

module _ (m : Machine) (laws : KeepsLaws m) (state : List ℕ) (slot input : ℕ) (xs : List Queued)
    (stands : Stands m state slot input xs) (n : Queued) (known : n.cell.class < m.classes)
    (level_is : n.key.level ≡ m.level n.cell.class) (rank_is : n.key.rank ≡ m.ranked state n.cell.class)
    (slot_is : n.key.slot ≡ slot) (input_is : n.key.input ≡ input) where
  -- no waiting cell of its class is less urgent
  class_no_later : (x : Queued) → x.cell.class ≡ n.cell.class → HasWaited m state slot input x → NoLater x n
  unfolding is_before
  class_no_later x same w = search (arith, rules, cond_both, ltb-true, eqb-true, w.before)

  -- each flow's cells are those from before, and then the new one if it is of the flow
  pub shown-put : (i c j : ℕ) → n.cell.output ≡ j → shown i c (put n xs) ≡ shown i c xs ++ of_flow i c j (n.cell ∷ [])
  unfolding of_flow class_no_later
  shown-put i c j here = ⊎_elim (λ k. search
      (rules, filter-put, map-append, and_from, eq-eqb, cond-true, all_weaker, class_no_later, eqb-true, and_parts))
      (search (arith, rules, filter-put_other, append-nil, and_right, cond-false)) (cases_Bool (is_kind i c n))

-- ## All inputs

-- the cells that arrive in a slot
abbrev pub present : List (Option Cell) → List Cell
present [] = []
present (None ∷ cells) = present cells
present (Some cell ∷ cells) = cell ∷ present cells

-- a result has one value
pub only_ok : {X E : Type 0} {x : Result X E} {a b : X} → x ≡ Ok a → x ≡ Ok b → a ≡ b
only_ok e f = cc

-- what came of the inputs from this one on, where no rank was too great
pub after_input_ok : (q : Option Queued) (x : Result Ranking TagFault) (r : Ranking) → after_input q x ≡ Ok r →
    (s : Ranking) × (x ≡ Ok s) × (record { came = q ∷ s.came; ranks = s.ranks } ≡ r)
after_input_ok q e r h = grind (arith, common_steps)

pub fits_ok : (b : Bool) (x : Result Ranking TagFault) (fault : TagFault) (r : Ranking) → cond b x (Err fault) ≡ Ok r →
    x ≡ Ok r
fits_ok b x fault r h = grind (arith, common_steps)

-- each cell for the output is of one of its classes
abbrev pub AreOfClasses : Machine → ℕ → List Cell → Type 0
AreOfClasses m j cells = AllByRecursion (λ cell. cell.output ≡ j → cell.class < m.classes) cells

module _ (ms : List Machine) (j slot : ℕ) (laws : KeepsLaws (machine_at ms j)) (i c : ℕ) where
  -- what the arrivals made of the output's list and of the rank states
  pub record Filled (come : List Cell) (xs ys : List Queued) (old new : List (List ℕ)) : Type 0 where
    pub stands : Stands (machine_at ms j) (slice_index_or new j []) (slot + 1) 0 ys
    pub ports : length new ≡ length old
    pub shows : shown i c ys ≡ shown i c xs ++ of_flow i c j come

  -- the cell with its key
  abbrev with_key : List (List ℕ) → ℕ → Cell → Queued
  with_key ranks input cell =
      keyed cell (level_at ms cell.output cell.class) (rank_at ms ranks cell.output cell.class) slot input

  -- what one cell makes of them
  one_filled : (cell : Cell) (input : ℕ) (ranks : List (List ℕ)) (xs : List Queued) → j < length ranks →
      Stands (machine_at ms j) (slice_index_or ranks j []) slot input xs →
      (cell.output ≡ j → cell.class < (machine_at ms j).classes) →
      let ys = cond (is_for j (with_key ranks input cell)) (put (with_key ranks input cell) xs) xs in
      Stands (machine_at ms j) (slice_index_or (given_at ms ranks cell.output cell.class) j []) slot (input + 1) ys
      × (shown i c ys ≡ shown i c xs ++ of_flow i c j (cell ∷ []))
  unfolding of_flow
  one_filled cell input ranks xs inside stands are =
      let q = with_key ranks input cell in
      ⊎_elim (search (arith, rules, in_order_put, all_put, all_weaker, given_floor, shown-put))
      (search (arith, rules, cond-false, ne_eqb, get_or-set_other, all_weaker, and_left, append-nil))
      (cases_eq cell.output j)

  -- from input to input
  pub filled_from : (cells : List (Option Cell)) (input : ℕ) (ranks : List (List ℕ)) (xs : List Queued) (r : Ranking)
      → ranking ms slot input cells ranks ≡ Ok r → j < length ranks →
      Stands (machine_at ms j) (slice_index_or ranks j []) slot input xs →
      AreOfClasses (machine_at ms j) j (present cells) → Filled (present cells) xs (put_all j r.came xs) ranks r.ranks
  unfolding of_flow
  filled_from [] input ranks xs r h inside stands are = search (arith, rules, only_ok, all_weaker, append-nil, shown)
  filled_from (None ∷ cells) input ranks xs r h inside stands are =
      search (arith, rules, after_input_ok, all_weaker, filled_from cells (input + 1) ranks xs)
  filled_from (Some cell ∷ cells) input ranks xs r h inside stands are =
      let one = one_filled cell input ranks xs inside stands are.0 in
      let w = after_input_ok _ _ r (fits_ok _ (after_input (Some (with_key ranks input cell)) _) _ r h) in
      let f = filled_from cells (input + 1) _ _ w.0 w.1 (search (arith, rules)) one.0 are.1 in
      search (arith, rules, append_assoc, shown, of_flow)
