-- The counts of a block, where a place is put in or taken out: the count of its output changes by one, and the others
-- stay, since counts are added up along places.
use Rattle.cq_list.proofs.Terms.{append-nil, length-append, length-take, all_at, common_steps, rules, ◌≡◌, ℕ, ◌+◌, ◌-◌, ◌<◌, ◌≤◌, List, [], ◌∷◌, ◌++◌, length, replicate, get_or, set, refl, arith, length-set, get_or-set_same, get_or-set_other, Some, insert, remove, slice_get, slice_get-get_or, AllByRecursion, eq-eqb, ne_eqb, cases_eq, get_or-replicate, length-remove, count_of, most_ports, most_places, get_or_from_slice_get, take_more, take_all, append_assoc, few_kept}
use Rattle.cq_list.specs.Block.{AreCounts}
use Rattle.cq_list.proofs.Nth.{fails}
use Rattle.cq_list.proofs.Sums.{count_added, put_into, taken_from}

all_remove : (P : ℕ → Type 0) (xs : List ℕ) (i : ℕ) → AllByRecursion P xs → AllByRecursion P (remove xs i)
all_remove P xs i all = grind (arith, common_steps)

-- an output beyond the last
pub count_beyond : (xs : List ℕ) (j : ℕ) → AllByRecursion (λ i. i < most_ports) xs → most_ports ≤ j → 0 ≡ count_of j xs
count_beyond [] j all beyond = refl
count_beyond (x ∷ xs) j all beyond = grind (arith, common_steps, fails, ne_eqb, count_beyond xs j all.1 beyond)

pub no_places : (places counts : List ℕ) → places ≡ [] → counts ≡ replicate most_ports 0 → AreCounts places counts
no_places places counts none zeros = rw (none, zeros) (search (arith, rules, get_or-replicate))

-- lists with a place set, and with one less
ruleset set_steps = (get_or-set_same, get_or-set_other, length-remove, length-set)

module _ (places counts : List ℕ) (had : AreCounts places counts) where
  pub count_fits : (j : ℕ) → j < most_ports → get_or counts j 0 ≤ most_places
  count_fits j inside = grind (arith, common_steps, few_kept)

  pub counts_insert : (i j : ℕ) → i ≤ length places → length places < most_places → j < most_ports →
      AreCounts (insert places i j) (set counts j (get_or counts j 0 + 1))
  counts_insert i j inside room in_range =
      grind (arith, common_steps, λ (k : ℕ). put_into (count_of k) (count_added k) places i j, eq-eqb, ne_eqb)

  module _ (i j : ℕ) (inside : i < length places) (read : j ≡ get_or places i j) where
    out : (k : ℕ) → count_of k (remove places i) + count_of k (j ∷ []) ≡ count_of k places
    out k = taken_from (count_of k) (count_added k) places i j (search (rules, slice_get-get_or))

    pub in_range_at : j < most_ports
    in_range_at = grind (arith, common_steps, all_at, slice_get-get_or)

    pub count_some : 1 ≤ get_or counts j 0
    count_some = grind (arith, common_steps, in_range_at, out j, eq-eqb)

    pub counts_remove : AreCounts (remove places i) (set counts j (get_or counts j 0 - 1))
    counts_remove = search (arith, rules, set_steps, in_range_at, out, eq-eqb, ne_eqb, cases_eq, all_remove)

-- ## The last place goes over to the front of another block

pub moved_over : (xs back : List ℕ) (i x : ℕ) → i + 1 ≡ length xs → slice_get xs i ≡ Some x →
    remove xs i ++ insert back 0 x ≡ xs ++ back
moved_over xs back i x last at =
    grind (arith, common_steps, take_more xs i x, take_all (i + 1) xs, get_or_from_slice_get, append_assoc)

-- places that go over to the end of another block
pub ruleset append_steps = (append-nil, length-append, length-take, take_all)
