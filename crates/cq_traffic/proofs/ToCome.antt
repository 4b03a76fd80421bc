-- What is still to come at one input, and for one output. Each arrival adds one cell at most to what comes at its
-- input. Cells that are for an output weigh one, and the others nothing: so no more cells come for it than there are
-- arrivals for it.
use Rattle.cq_traffic.proofs.Terms.{rules, common_steps, ◌≡◌, ℕ, zero, suc, ◌+◌, ◌≤◌, Bool, cond, List, [], ◌∷◌, ◌++◌, length, Option, Some, None, refl, arith, is_some, cases_eq, eq-eqb, map-range_with_len_more, arrival_at, Arrival, arriving, Cell, number_of, is_from, found, found_here, found_none, other_slot, other_input, total, total_none, total_more, arriving_from, first_slots, map, range_with_len, enough, traffic_of, is_to, option_to_list, sum_by, sum_by-cons, sum_by-append}
use Rattle.cq_traffic.proofs.Arriving.{place_of}
use Rattle.cq_ideal.proofs.FlowCount.{weighed}
use Rattle.cq_ideal.specs.Ideal.{count_for}

-- ## At an input

-- how many cells come at the input in so many slots from this one on
unfoldable pub come_from : ℕ → List Arrival → ℕ → ℕ → ℕ
come_from i came slot n = total (λ t. length (found came t i)) slot n

-- one where a cell arrives
abbrev pub one_if : Option Cell → ℕ
one_if None = 0
one_if (Some cell) = 1

abbrev pub bit : Bool → ℕ
bit b = cond b 1 0

pub some_one : (o : Option Cell) → bit (is_some o) ≡ one_if o
some_one o = search (arith, rules)

module _ (i : ℕ) where
  pub from_here : (came : List Arrival) (slot n : ℕ) →
      come_from i came slot (suc n) ≡ length (found came slot i) + come_from i came (slot + 1) n
  unfolding come_from total
  from_here came slot n = refl

  -- the last of the slots
  pub from_last : (came : List Arrival) (slot n : ℕ) →
      come_from i came slot (suc n) ≡ come_from i came slot n + length (found came (slot + n) i)
  unfolding come_from total
  from_last came slot zero = grind (arith, common_steps, found)
  from_last came slot (suc n) = grind (arith, common_steps, found, from_last came (slot + 1) n)

  one_more : (a : Arrival) (came : List Arrival) →
      length (found (a ∷ came) a.slot i) ≤ length (found came a.slot i) + bit (is_from i a)
  one_more a came = grind (arith, common_steps, found, found_here, eq-eqb, other_input, cases_eq)

  pub no_more_from : (came : List Arrival) (n : ℕ) → come_from i came 0 n ≤ number_of (is_from i) came
  unfolding come_from
  no_more_from [] n = search (arith, rules, total_none, found_none)
  no_more_from (a ∷ came) n =
      let more = total_more (λ t. length (found (a ∷ came) t i)) (λ t. length (found came t i)) a.slot
      (bit (is_from i a)) 0 n in
      search (arith, rules, more, other_slot, one_more, no_more_from came n)

-- what arrives at the input is found there
pub arrives_found : (came : List Arrival) (t i : ℕ) → one_if (arrival_at (arriving came t) i) ≤ length (found came t i)
unfolding found
arrives_found came t i = grind (arith, common_steps, place_of)

-- ## The slots so far

pub first_more : (came : List Arrival) (slot : ℕ) →
    first_slots came (slot + 1) ≡ first_slots came slot ++ arriving came slot ∷ []
unfolding arriving_from
first_more came slot = map-range_with_len_more (arriving came) 0 slot slot (omega arith)

-- ## For an output

-- how many cells come for the output in these slots
unfoldable pub come_for : ℕ → List (List (Option Cell)) → ℕ
come_for j traffic = sum_by (count_for j) traffic

pub for_here : (j : ℕ) (came : List Arrival) (slot n : ℕ) →
    come_for j (arriving_from came slot (suc n)) ≡ count_for j (arriving came slot) + come_for j
    (arriving_from came (slot + 1) n)
unfolding arriving_from come_for
for_here j came slot n = grind (arith, common_steps, sum_by-cons)

-- the last of the slots
pub for_last : (j : ℕ) (came : List Arrival) (slot : ℕ) →
    come_for j (first_slots came (slot + 1)) ≡ come_for j (first_slots came slot) + count_for j (arriving came slot)
unfolding come_for
for_last j came slot = grind (arith, common_steps, first_more, sum_by-append, sum_by-cons)

module _ (j : ℕ) where
  -- how many of these cells are for the output
  abbrev count_to : List Cell → ℕ
  count_to cells = count_for j (map (λ (cell : Cell). Some cell) cells)

  count_for-cons : (o : Option Cell) (cells : List (Option Cell)) →
      count_for j (o ∷ cells) ≡ count_to (option_to_list o) + count_for j cells
  count_for-cons o cells = grind (arith, common_steps)

  one_more_to : (a : Arrival) (came : List Arrival) →
      number_of (is_to j) came + count_to (a.cell ∷ []) ≤ number_of (is_to j) (a ∷ came)
  one_more_to a came = grind (arith, common_steps)

  count_from : (came : List Arrival) (a n : ℕ) →
      come_for j (map (arriving came) (range_with_len a n)) ≡ total (λ t. count_for j (arriving came t)) a n
  unfolding come_for total
  count_from came a zero = refl
  count_from came a (suc n) = grind (arith, common_steps, sum_by-cons, count_from came (a + 1) n)

  -- in any number of slots
  pub no_more_to : (came : List Arrival) (n : ℕ) → come_for j (first_slots came n) ≤ number_of (is_to j) came
  unfolding arriving_from
  no_more_to came n =
      let most = weighed count_to (count_for j) (number_of (is_to j)) refl refl count_for-cons one_more_to came n in
      omega (arith, count_from came 0 n)

  pub come_for-traffic_of : (came : List Arrival) → come_for j (traffic_of came) ≤ number_of (is_to j) came
  unfolding traffic_of arriving_from
  come_for-traffic_of came = no_more_to came (enough came)
