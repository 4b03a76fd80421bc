-- A cell put into a queue whose cells rise in their keys goes in at the place of the first less urgent cell. Where no
-- cell has its key, that is the first one that is no more urgent. What the last of some cells tells: where it is more
-- urgent they all are, where it is not, not all of them are, and where it has the key all but it are more urgent.
use Rattle.std.proofs.lemmas.List.Sums.{passes_at_first}
use Rattle.cq_list.proofs.Terms.{first_inside, length-map, first_le, cases_lt, slice_get_within, get_or_from_slice_get, ◌-◌, ◌<◌, rules, ◌≡◌, ℕ, zero, suc, ◌≤◌, Bool, true, false, not, List, [], ◌∷◌, Some, refl, arith, common_steps, insert, slice_get, position_or_len, cases_Bool, not-true, Queued, Key, is_before, IsBefore, IsRising, HasOtherKey, put, key_laws, all_at, first_here, first_later, after_other, drop}

-- the test that finds its place
abbrev pub is_later : Key → Queued → Bool
is_later key x = is_before key x.key

pub put_is : (c : Queued) (xs : List Queued) → put c xs ≡ insert xs (position_or_len (is_later c.key) xs) c
put_is c [] = refl
put_is c (x ∷ xs) =
    let place : is_before c.key x.key ≡ false → suc (position_or_len (is_later c.key) xs)
    ≡ position_or_len (is_later c.key) (x ∷ xs) = λ e. omega (arith, first_later (is_later c.key) x xs e) in
    search (arith, rules, first_here, place, cases_Bool, put_is c xs)

-- ## How many are more urgent

-- keys of which neither is more urgent
pub neither_sooner : (a b : Key) → not (is_before a b) ≡ true → not (is_before b a) ≡ true → a ≡ b
neither_sooner a b one other = key_laws.alike a b (not-true (is_before a b) one) (not-true (is_before b a) other)

pub same_is_no_sooner : (a b : Key) → a ≡ b → is_before a b ≡ false
same_is_no_sooner a b same = rw same (key_laws.never_itself b)

-- whether a cell is no more urgent
abbrev pub is_no_sooner : Key → Queued → Bool
is_no_sooner key x = not (is_before x.key key)

-- where no cell has its key, those that are no more urgent are less urgent
pub no_sooner_is_later :
    (c : Queued) (xs : List Queued) → HasOtherKey c xs →
    position_or_len (is_no_sooner c.key) xs ≡ position_or_len (is_later c.key) xs
no_sooner_is_later c [] other = refl
no_sooner_is_later c (x ∷ xs) other =
    search (rules, cases_Bool, first_later, first_here, key_laws.one_way, after_other, no_sooner_is_later c xs other.1)

-- where all cells before one of rising cells are more urgent, those ahead of it are
pub sooner_to : (key : Key) (x : Queued) (xs : List Queued) (m : ℕ) →
    ((y : Queued) → IsBefore y x → is_before y.key key ≡ true) → IsRising xs → slice_get xs m ≡ Some x →
    m ≤ position_or_len (is_no_sooner key) xs
sooner_to key x xs zero sooner rising at = omega arith
sooner_to key x xs (suc m) sooner rising at =
    search (arith, rules, all_at, first_later, sooner_to key x (drop 1 xs) m sooner)

-- a place that is no later than the first one that passes, and does not, is earlier
pub past_this : {X : Type 0} (p : X → Bool) (xs : List X) (i : ℕ) (x : X) → slice_get xs i ≡ Some x → p x ≡ false →
    i ≤ position_or_len p xs → i < position_or_len p xs
past_this p xs i x at fails le =
    grind (arith, common_steps, cases_lt, passes_at_first p xs x, slice_get_within, get_or_from_slice_get)

-- ## What the last of some cells tells

module _ (xs : List Queued) (rising : IsRising xs) {count : ℕ} (some : 0 < count) {x : Queued}
    (last : slice_get xs (count - 1) ≡ Some x) (key : Key) where
  -- where it is more urgent, they all are
  pub all_sooner : is_before x.key key ≡ true → count ≤ position_or_len (is_no_sooner key) xs
  all_sooner sooner = search (arith, rules, sooner_to, key_laws.on, past_this, is_no_sooner)

  -- where it is not, not all of them are
  pub one_later : is_before x.key key ≡ false → position_or_len (is_no_sooner key) xs < count
  one_later later = grind (arith, common_steps, first_le)

  -- and where it has the key, all but it
  pub all_but_last : x.key ≡ key → count - 1 ≡ position_or_len (is_no_sooner key) xs
  all_but_last own = search (arith, rules, sooner_to, key_laws.never_itself, first_le, is_no_sooner)

-- where there is no cell all are more urgent
pub ruleset behind_all_steps = (first_inside, length-map)
