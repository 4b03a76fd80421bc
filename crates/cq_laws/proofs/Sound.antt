-- What each phase keeps of a fabric state, said by members: the state is a fabric's, the cells for one output stand
-- in order in each input's list, no key is twice, and every cell is from before a slot. That no key is twice is said
-- of two cells at inputs, of one at an input and one that has crossed, and of two that have crossed; by their places
-- it is the same. Before that, the cells of a list as members and by their places: where the first cell for an
-- output stands, and what becomes of the members where it is taken out, where a cell is put in the order of keys,
-- and where one is inserted at a place.
use Rattle.cq_laws.proofs.Terms.{rules, common_steps, ◌≡◌, ◌≢◌, ◌∷◌, ℕ, ◌<◌, List, Some, refl, sym, ◌∙◌, arith, slice_get, cases_lt, true≢false, Queued, Fabric, input, buffer, IsAmong, IsFabric, ListsKeepOrder, IsBefore, IsRising, EachPair, key_laws, each_pair_at, AreOrdersOf, FirstKeysDiffer, orders_of, are_orders, HasFor, Waiting, Crossed, NoKeyTwice, AllBefore, all_of_has, has_there, stands_at, ◌↔◌, zero, suc, ◌≤◌, ◌⊎◌, Bool, true, [], ap, inl, inr, ⊎_elim, find, insert, position_or_len, eqb-true, cond_both, put, is_for, first_for, place_for, without_first, first_here, first_later, all_from_has, has_cases, has_left, has_right, drop, take, take-append-drop, Partners, list_of}
use Rattle.cq_base.proofs.Putting.{rising_put as put_rises}
use Rattle.cq_prefs.specs.Moves.{Moves}

-- ## The first cell for an output

-- where the first stands, and that it passes
pub record IsFirst (p : Queued → Bool) (xs : List Queued) (c : Queued) : Type 0 where
  pub place : ℕ
  pub is : place ≡ position_or_len p xs
  pub at : slice_get xs place ≡ Some c
  pub passes : p c ≡ true

pub first_at : (p : Queued → Bool) (xs : List Queued) (c : Queued) → find p xs ≡ Some c → IsFirst p xs c
first_at p [] c h = cc
first_at p (x ∷ xs) c h = search (arith, rules, first_here, first_later, first_at p xs c)

pub from_first : (j : ℕ) (xs : List Queued) (f : Queued) → first_for j xs ≡ Some f →
    IsAmong f xs × (f.cell.output ≡ j)
from_first j xs f is = let first = first_at (is_for j) xs f is in (search (arith, rules, has_there, eqb-true))

-- where one passes, there is a first
pub first_of : (p : Queued → Bool) (xs : List Queued) (c : Queued) → IsAmong c xs → p c ≡ true →
    (f : Queued) × (find p xs ≡ Some f)
first_of p [] c h e = absurd h
first_of p (x ∷ xs) c h e = cond_both (p x) (Some x) (find p xs) (λ o. (f : Queued) × (o ≡ Some f)) (λ _. (x, refl))
    (λ no. ⊎_elim (λ same. absurd (cc (ap p same))) (λ k. first_of p xs c k e) h)

-- ## A list without its first cell for an output

-- where a cell that is left stood before: at this place, or at the next if that is behind the one that was taken
pub left_at : (j : ℕ) (xs : List Queued) (t : ℕ) (c : Queued) → slice_get (without_first j xs) t ≡ Some c →
    ((slice_get xs t ≡ Some c) × (t < place_for j xs)) ⊎ ((slice_get xs (suc t) ≡ Some c) × (place_for j xs ≤ t))
left_at j [] t c h = cc
left_at j (x ∷ xs) t c h =
    grind (arith, common_steps, cond_both, first_here (is_for j) x xs, first_later (is_for j) x xs, left_at j xs)

-- a cell of the list is left, or it is the first
pub left_or_first : (j : ℕ) (xs : List Queued) (c : Queued) → IsAmong c xs →
    IsAmong c (without_first j xs) ⊎ (first_for j xs ≡ Some c)
left_or_first j [] c h = absurd h
left_or_first j (x ∷ xs) c h = grind (arith, common_steps, cond_both, left_or_first j xs c)

-- what is left was there
pub left_among : (j : ℕ) (xs : List Queued) (c : Queued) → IsAmong c (without_first j xs) → IsAmong c xs
left_among j xs c h = let r = stands_at (without_first j xs) c h in search (rules, has_there, left_at j xs r.0 c)

-- so a cell that waits at an input after a transfer waited there
pub was_waiting : {m : Partners} {lists lists' buffers buffers' : List (List Queued)} →
    Moves m lists buffers lists' buffers' → (i : ℕ) (c : Queued) → IsAmong c (list_of lists' i) →
    IsAmong c (list_of lists i)
was_waiting moves i c h = search (arith, rules, left_among)

-- ## A cell put in the order of keys

pub among_put : (d c : Queued) (xs : List Queued) → IsAmong d (put c xs) ↔ ((c ≡ d) ⊎ IsAmong d xs)
among_put d c [] = (λ h. h, λ h. h)
among_put d c (x ∷ xs) = grind (arith, common_steps, cond_both, among_put d c xs)

pub rising_put : (c : Queued) (xs : List Queued) → IsRising xs → ((d : Queued) → IsAmong d xs → c.key ≢ d.key) →
    IsRising (put c xs)
rising_put c xs r ne = put_rises c xs r (all_from_has _ xs (λ d h e. ne d h (sym e)))

-- ## A cell inserted at a place

-- what stands in a list after an insertion: the new cell no later than its place, each other no more than one place
-- later
pub inserted_at : (xs : List Queued) (p t : ℕ) (n c : Queued) → slice_get (insert xs p n) t ≡ Some c →
    ((t ≤ p) × (n ≡ c)) ⊎ ((s : ℕ) × (slice_get xs s ≡ Some c) × (t ≤ suc s))
inserted_at xs zero (suc t) n c h = inr (t, h, omega arith)
inserted_at (x ∷ xs) (suc p) zero n c h = inr (zero, h, omega arith)
inserted_at (x ∷ xs) (suc p) (suc t) n c h =
    ⊎_elim (λ k. inl (omega arith, k.1)) (λ k. inr (suc k.0, k.1, omega arith)) (inserted_at xs p t n c h)
inserted_at xs p t n c h = grind (arith, common_steps)

pub insert_has : (xs : List Queued) (p : ℕ) (n c : Queued) → (n ≡ c) ⊎ IsAmong c xs → IsAmong c (insert xs p n)
insert_has xs p n c h = grind (arith, common_steps, has_left, has_right, has_cases (take p xs), take-append-drop p xs)

pub among_insert : (xs : List Queued) (p : ℕ) (n c : Queued) → IsAmong c (insert xs p n) → (n ≡ c) ⊎ IsAmong c xs
among_insert xs p n c h =
    grind (arith, common_steps, has_cases, has_left, has_right (take p xs) (drop p xs), take-append-drop p xs)

pub record Apart (f : Fabric) : Type 0 where
  pub waiting : (i k : ℕ) (c d : Queued) → IsAmong c (input f i) → IsAmong d (input f k) → c.key ≡ d.key →
      (i ≡ k) × (c ≡ d)
  pub between : (i j : ℕ) (c d : Queued) → IsAmong c (input f i) → IsAmong d (buffer f j) → c.key ≢ d.key
  pub crossed : (j l : ℕ) (c d : Queued) → IsAmong c (buffer f j) → IsAmong d (buffer f l) → c.key ≡ d.key → c ≡ d

pub record Early (slot : ℕ) (f : Fabric) : Type 0 where
  pub waiting : (i : ℕ) (c : Queued) → IsAmong c (input f i) → c.key.slot < slot
  pub crossed : (j : ℕ) (c : Queued) → IsAmong c (buffer f j) → c.key.slot < slot

pub record Sound (slot : ℕ) (f : Fabric) : Type 0 where
  pub fabric : IsFabric f
  pub order : ListsKeepOrder f
  pub apart : Apart f
  pub early : Early slot f

-- ## From places to members

pub apart_from : (f : Fabric) → NoKeyTwice f → Apart f
apart_from f differ =
    let waits = λ (i s k t : ℕ). differ (Waiting i s) (Waiting k t) in
    let mixed = λ (i s j t : ℕ). differ (Waiting i s) (Crossed j t) in
    let crossed = λ (j s l t : ℕ). differ (Crossed j s) (Crossed l t) in
    search (arith, rules, stands_at, waits, mixed, crossed)

pub early_from : (slot : ℕ) (f : Fabric) → AllBefore slot f → Early slot f
early_from slot f before =
    search (rules, stands_at, λ (i t : ℕ). before (Waiting i t), λ (j t : ℕ). before (Crossed j t))

-- a key is of one cell, wherever it stands
pub same_cell : (f : Fabric) → Apart f → (j l : ℕ) (c d : Queued) → HasFor f j c → HasFor f l d → c.key ≡ d.key → c ≡ d
same_cell f apart j l c d h k e = grind (arith, common_steps, apart.waiting, apart.between, apart.crossed)

-- ## And back

pub not_before_itself : (c : Queued) → IsBefore c c → ⊥
not_before_itself c h = true≢false (sym h ∙ key_laws.never_itself c.key)

pub never_both : (a b : Queued) → IsBefore a b → IsBefore b a → ⊥
never_both a b h k = true≢false (sym k ∙ key_laws.one_way a.key b.key h)

-- lists that rise and have each other's first have the same first
pub same_first : (x y : Queued) (xs ys : List Queued) → IsRising (x ∷ xs) → IsRising (y ∷ ys) → IsAmong x (y ∷ ys) →
    IsAmong y (x ∷ xs) → x ≡ y
same_first x y xs ys r s h k = grind (arith, common_steps, all_of_has, never_both)

-- where no cell is related to itself, none stands at two places
one_place : (R : Queued → Queued → Type 0) (xs : List Queued) (s t : ℕ) (c : Queued) → (R c c → ⊥) → EachPair R xs →
    slice_get xs s ≡ Some c → slice_get xs t ≡ Some c → s ≡ t
one_place R xs s t c never e a b = grind (arith, common_steps, each_pair_at, cases_lt)

pub one_in_order : (xs : List Queued) (s t : ℕ) (c : Queued) →
    EachPair (λ a b. a.cell.output ≡ b.cell.output → IsBefore a b) xs → slice_get xs s ≡ Some c →
    slice_get xs t ≡ Some c → s ≡ t
one_in_order xs s t c order a b = one_place _ xs s t c (λ n. not_before_itself c (n refl)) order a b

pub differ_from : (f : Fabric) → IsFabric f → ListsKeepOrder f → Apart f → NoKeyTwice f
differ_from f fabric order apart (Waiting i s) (Waiting k t) c d a b e =
    search (arith, rules, apart.waiting i k c d, has_there, one_in_order (input f i) s t c (order i))
differ_from f fabric order apart (Waiting i s) (Crossed j t) c d a b e = search (rules, apart.between, has_there)
differ_from f fabric order apart (Crossed j t) (Waiting i s) c d a b e =
    search (rules, apart.between i j d c, has_there)
differ_from f fabric order apart (Crossed j s) (Crossed l t) c d a b e =
    search (arith, rules, has_there (buffer f j) s c a, has_there (buffer f l) t d b, one_place, not_before_itself)

pub all_before : (slot : ℕ) (f : Fabric) → Early slot f → AllBefore slot f
all_before slot f early (Waiting i t) c at = early.waiting i c (has_there (input f i) t c at)
all_before slot f early (Crossed j t) c at = early.crossed j c (has_there (buffer f j) t c at)

-- ## The offers of such a state are those of its first cells

pub firsts_differ : (f : Fabric) → Apart f → FirstKeysDiffer f.inputs
firsts_differ f apart j i k c d a b e = search (arith, rules, apart.waiting i k c d, from_first)

pub orders_are : (f : Fabric) → Apart f → AreOrdersOf f.inputs (orders_of f.inputs)
orders_are f apart = are_orders f.inputs (firsts_differ f apart)
