-- Lists of waiting cells. First what a place shows: what holds of all cells holds at each place, and what holds of
-- each cell and each after it holds of two places in their order. Then the first cell that passes a test: where it
-- stands, and that taking it out, or putting a cell in, keeps what holds of all cells and of each two. Last the rule
-- of arrival: a cell that goes in at the least of the three places stands after every more urgent cell for its
-- output, for these stand below its cushion, and before every less urgent one, for the first of these is one of the
-- three places.
use Rattle.cq_base.proofs.Terms.{common_steps, rules, ◌≡◌, ◌≢◌, ℕ, zero, suc, ◌+◌, ◌<◌, ◌≤◌, Bool, true, false, not, cond, List, [], ◌∷◌, length, Option, None, Some, refl, ap, arith, ◌&&◌, slice_get, position, unwrap_or, insert, AllByRecursion, position_or_len, cond_both, eqb-true, eq-eqb, and_from, cases_Bool, cases_lt, ltb-false, slice_get_within, slice_get_past, slice_get-get_or, find_at, passes_at_first, is_before, prefix_len-le-length}
use Rattle.cq_base.specs.declared.cell.Queued.{Queued}
use Rattle.cq_base.specs.Items.{EachPair}
use Rattle.cq_base.specs.Cells.{IsBefore, KeepsOrder, KeysDiffer, HasOtherKey, MoreUrgentAhead, ArrivedBefore, is_for, first_for, without_first, place_of_arrival, with_arrival}
use Rattle.cq_base.proofs.Having.{all_from_has, all_of_has, has_there, stands_at}
use Rattle.cq_base.proofs.Keys.{key_laws}
use Rattle.cq_base.proofs.Putting.{after_other}

-- ## What a place shows

pub all_at : {X : Type 0} (P : X → Type 0) (xs : List X) (t : ℕ) (c : X) → AllByRecursion P xs →
    slice_get xs t ≡ Some c → P c
all_at P xs t c a h = all_of_has P xs c a (has_there xs t c h)

pub all_by : {X : Type 0} (P : X → Type 0) (xs : List X) → ((t : ℕ) (c : X) → slice_get xs t ≡ Some c → P c) →
    AllByRecursion P xs
all_by P xs f = search (rules, all_from_has, stands_at, f)

-- of two places the relation holds in their order
pub each_pair_at : {X : Type 0} (R : X → X → Type 0) (xs : List X) (s t : ℕ) (a b : X) → EachPair R xs →
    slice_get xs s ≡ Some a → slice_get xs t ≡ Some b → s < t → R a b
each_pair_at R [] s t a b e h k l = cc
each_pair_at R (x ∷ xs) s t a b e h k l = grind (arith, common_steps, all_at, each_pair_at R xs)

-- ## The first that passes a test

pub first_here : {X : Type 0} (p : X → Bool) (x : X) (xs : List X) → p x ≡ true → position_or_len p (x ∷ xs) ≡ 0
first_here p x xs e = ap (λ b. cond (not b) (1 + position_or_len p xs) 0) e

pub first_later : {X : Type 0} (p : X → Bool) (x : X) (xs : List X) → p x ≡ false →
    position_or_len p (x ∷ xs) ≡ 1 + position_or_len p xs
first_later p x xs e = ap (λ b. cond (not b) (1 + position_or_len p xs) 0) e

pub first_inside : {X : Type 0} (p : X → Bool) (xs : List X) → position_or_len p xs ≤ length xs
first_inside p xs = prefix_len-le-length _ xs

-- what passes stands no earlier
pub first_le : {X : Type 0} (p : X → Bool) (xs : List X) (t : ℕ) (c : X) → slice_get xs t ≡ Some c → p c ≡ true →
    position_or_len p xs ≤ t
first_le p [] t c h e = cc
first_le p (x ∷ xs) t c h e = search (arith, rules, first_here, first_le p xs, cond_both)

-- the place that a search found, or the length
pub place_found : {X : Type 0} (p : X → Bool) (xs : List X) (o : Option ℕ) (n : ℕ) → o ≡ position p xs →
    n ≡ unwrap_or o (length xs) → n ≡ position_or_len p xs
place_found p xs o n e f = grind (arith, common_steps, cond_both, ltb-false, first_inside)

-- ## The first cell for an output taken out

pub all_left : (P : Queued → Type 0) (j : ℕ) (xs : List Queued) → AllByRecursion P xs →
    AllByRecursion P (without_first j xs)
all_left P j [] a = tt
all_left P j (x ∷ xs) a = grind (arith, common_steps, cond_both, all_left P j xs a.1)

pub each_pair_left : (R : Queued → Queued → Type 0) (j : ℕ) (xs : List Queued) → EachPair R xs →
    EachPair R (without_first j xs)
each_pair_left R j [] e = tt
each_pair_left R j (x ∷ xs) e = grind (arith, common_steps, cond_both, all_left, each_pair_left R j xs e.1)

none_left : (j : ℕ) (xs : List Queued) → first_for j xs ≡ None → without_first j xs ≡ xs
none_left j [] h = refl
none_left j (x ∷ xs) h = grind (arith, common_steps, none_left j xs)

-- what is left where a search for the first cell for the output found none
pub taken_none : (j : ℕ) (xs : List Queued) → position (is_for j) xs ≡ None →
    (None ≡ first_for j xs) × (xs ≡ without_first j xs)
taken_none j xs h = search (arith, rules, find_at, slice_get_past, none_left, cond_both, ltb-false)

-- ## A cell inserted at a place

pub all_insert : (P : Queued → Type 0) (xs : List Queued) (p : ℕ) (n : Queued) → P n → AllByRecursion P xs →
    AllByRecursion P (insert xs p n)
all_insert P (x ∷ xs) (suc p) n q a = (a.0, all_insert P xs p n q a.1)
all_insert P xs p n q a = grind (arith, common_steps)

each_pair_insert : (R : Queued → Queued → Type 0) (xs : List Queued) (p : ℕ) (n : Queued) → EachPair R xs →
    ((s : ℕ) (x : Queued) → slice_get xs s ≡ Some x → s < p → R x n) →
    ((s : ℕ) (x : Queued) → slice_get xs s ≡ Some x → p ≤ s → R n x) → EachPair R (insert xs p n)
each_pair_insert R xs zero n e before after = (all_by (R n) xs (λ s c h. after s c h (omega arith)), e)
each_pair_insert R [] (suc p) n e before after = (tt, tt)
each_pair_insert R (x ∷ xs) (suc p) n e before after =
    let earlier = λ (s : ℕ). before (suc s) in
    let later = λ (s : ℕ). after (suc s) in
    search (arith, rules, all_insert (R x), before zero x refl, each_pair_insert R xs p n e.1, earlier, later)

pub keys_differ_insert : (xs : List Queued) (p : ℕ) (n : Queued) → KeysDiffer xs → HasOtherKey n xs →
    KeysDiffer (insert xs p n)
keys_differ_insert xs p n differ other = grind (arith, common_steps, each_pair_insert, all_at)

-- ## An arriving cell keeps the order of the cells for its output

module _ (cushion : ℕ) (n : Queued) (xs : List Queued) (order : KeepsOrder xs) (other : HasOtherKey n xs)
    (ahead : MoreUrgentAhead cushion n xs) where
  is_later : Queued → Bool
  is_later x = is_for n.cell.output x && is_before n.key x.key

  differs : (s : ℕ) (x : Queued) → slice_get xs s ≡ Some x → x.key ≢ n.key
  differs s x at = all_at (λ y. y.key ≢ n.key) xs s x other at

  after_arrival : (s : ℕ) (x : Queued) → slice_get xs s ≡ Some x → place_of_arrival cushion n xs ≤ s →
      n.cell.output ≡ x.cell.output → IsBefore n x
  unfolding is_later
  after_arrival s x at l e =
      let pass = passes_at_first is_later xs x in
      let inside = slice_get_within xs s x at in
      search (arith, rules, after_other, differs, pass, eqb-true, slice_get-get_or, each_pair_at, key_laws.on, cases_lt)

  pub keeps_order_arrival : KeepsOrder (with_arrival cushion n xs)
  keeps_order_arrival = search
      (arith, rules, each_pair_insert, after_arrival, after_other, differs, first_le, and_from, eq-eqb, cases_Bool)

-- ## The newest cell

-- no older cell has its key
pub other_key_newest : (c : Queued) (xs : List Queued) → ArrivedBefore c.key.slot xs → HasOtherKey c xs
other_key_newest c xs before = grind (arith, common_steps, all_by, all_at)

-- a cushion that is no less than any place
pub ahead_of_end : (cushion : ℕ) (c : Queued) (xs : List Queued) → length xs ≤ cushion → MoreUrgentAhead cushion c xs
ahead_of_end cushion c xs l place x at _ _ = let inside = slice_get_within xs place x at in omega arith

-- all arrived before the next slot
pub arrived_newest : (cushion : ℕ) (c : Queued) (xs : List Queued) → ArrivedBefore c.key.slot xs →
    ArrivedBefore (c.key.slot + 1) (with_arrival cushion c xs)
arrived_newest cushion c xs before = search (rules, all_insert, all_by, all_at)
