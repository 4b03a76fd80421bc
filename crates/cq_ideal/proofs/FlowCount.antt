-- What arrives in a slot at an input, how many cells come, and until when. At an input the first arrival in the list
-- is found that is of this slot and at this input. So one of another slot or input hides nothing, and what holds of
-- all that are of this slot and at this input holds of what is found. The cells of a slot are those that are found
-- at its inputs, so each arrival adds its cell at most to what comes, and what comes weighs no more than the
-- arrivals, whatever a cell weighs. From the end of the arrivals on none comes. So a run of as many slots as are
-- enough has one slot for each cell after the last of them came.
use Rattle.cq_ideal.proofs.Terms.{None, option_to_list, and_left, ne_eqb, cond-false, replicate, length-replicate, fill_by_all, rules, ◌≡◌, ℕ, zero, suc, ◌+◌, ◌<◌, ◌≤◌, List, [], ◌∷◌, length, map, drop, refl, sym, ap, arith, common_steps, AllByRecursion, range_with_len, length-map-range_with_len, Arrival, arriving_at, arriving, end_of, enough, traffic_of, all_weaker, Cell, Option, ◌∙◌, most_ports, ◌++◌, cons_option, eq-eqb, and_from, and_right, cond-true, none_had, all_of_has}
use Rattle.cq_ideal.proofs.Changed.{same_at}
use Rattle.cq_ideal.proofs.FlowStands.{present}
use Rattle.cq_ideal.proofs.FlowRun.{come_count}
use Rattle.cq_ideal.proofs.Waiting.{total, total_more, total_none, total_same}

pub listed : (o : Option Cell) (cells : List Cell) → cons_option o cells ≡ option_to_list o ++ cells
listed cell cells = grind (arith, common_steps)

pub listed_same : (o p : Option Cell) → option_to_list o ≡ option_to_list p → o ≡ p
listed_same cell other e = grind (arith, common_steps)

-- the cell that arrives in a slot at an input, if one does
unfoldable pub found : List Arrival → ℕ → ℕ → List Cell
found came t k = option_to_list (arriving_at came t k)

pub found_here : (a : Arrival) (came : List Arrival) (t k : ℕ) → a.slot ≡ t → a.cell.id.input ≡ k →
    found (a ∷ came) t k ≡ a.cell ∷ []
unfolding found
found_here a came t k e f = grind (arith, common_steps, cond-true, and_from, a.slot, a.cell.id.input, eq-eqb)

pub other_slot : (a : Arrival) (came : List Arrival) (t k : ℕ) → (a.slot ≡ t → ⊥) →
    found (a ∷ came) t k ≡ found came t k
unfolding found
other_slot a came t k ne = grind (arith, common_steps, cond-false, and_left, a.slot, a.cell.id.input, ne_eqb)

pub other_input : (a : Arrival) (came : List Arrival) (t k : ℕ) → (a.cell.id.input ≡ k → ⊥) →
    found (a ∷ came) t k ≡ found came t k
unfolding found
other_input a came t k ne = grind (arith, common_steps, cond-false, and_right, a.slot, a.cell.id.input, ne_eqb)

-- what holds of all arrivals at the slot and the input holds of what is found there
pub all_found : (P : Cell → Type 0) (came : List Arrival) (t k : ℕ) →
    AllByRecursion (λ a. a.slot ≡ t → a.cell.id.input ≡ k → P a.cell) came → AllByRecursion P (found came t k)
unfolding found
all_found P [] t k a = tt
all_found P (x ∷ came) t k a = grind (arith, common_steps, all_found P came t k a.1)

-- nothing is found where no arrival is at the slot and the input
pub found_none : (came : List Arrival) (t k : ℕ) → AllByRecursion (λ a. a.slot ≡ t → a.cell.id.input ≡ k → ⊥) came →
    found came t k ≡ []
found_none came t k a = none_had _ (λ c h. all_of_has (λ _. ⊥) _ c (all_found (λ _. ⊥) came t k a) h)

-- ## The places of a slot

pub arriving_is : (came : List Arrival) (t inputs : ℕ) → inputs ≡ most_ports →
    arriving came t ≡ map (arriving_at came t) (range_with_len 0 inputs)
unfolding arriving
arriving_is came t inputs e = grind (arith, common_steps)

pub length-arriving : (came : List Arrival) (t inputs : ℕ) → inputs ≡ most_ports → length (arriving came t) ≡ inputs
length-arriving came t inputs e =
    cc (arriving_is came t inputs e, length-map-range_with_len (arriving_at came t) 0 inputs)

-- what holds of all that is found at the inputs
pub all_present : (came : List Arrival) (t : ℕ) (P : Cell → Type 0) (a n : ℕ) →
    ((k : ℕ) → AllByRecursion P (found came t k)) →
    AllByRecursion P (present (map (arriving_at came t) (range_with_len a n)))
unfolding found
all_present came t P a zero f = tt
all_present came t P a (suc n) f = search (rules, f a, all_present came t P (a + 1) n f)

-- ## What comes, weighed

-- the cells of a slot weigh what they weigh one by one, and arrivals no less than their cells
module _ (of : List Cell → ℕ) (here : List (Option Cell) → ℕ) (bound : List Arrival → ℕ) (none : of [] ≡ 0)
    (empty : here [] ≡ 0)
    (more : (o : Option Cell) (cells : List (Option Cell)) → here (o ∷ cells) ≡ of (option_to_list o) + here cells)
    (adds : (a : Arrival) (came : List Arrival) → bound came + of (a.cell ∷ []) ≤ bound (a ∷ came)) where
  in_places : (came : List Arrival) (t a n : ℕ) →
      here (map (arriving_at came t) (range_with_len a n)) ≡ total (λ k. of (found came t k)) a n
  unfolding total found
  in_places came t a zero = empty
  in_places came t a (suc n) = grind (arith, common_steps, more, in_places came t (a + 1) n)

  module _ (inputs : ℕ) (are : inputs ≡ most_ports) where
    -- what comes in a slot
    in_slot : List Arrival → ℕ → ℕ
    in_slot came t = total (λ k. of (found came t k)) 0 inputs

    is_in_slot : (came : List Arrival) (t : ℕ) → here (arriving came t) ≡ in_slot came t
    unfolding in_slot
    is_in_slot came t = ap here (arriving_is came t inputs are) ∙ in_places came t 0 inputs

    -- an arrival adds its cell at most to its slot
    in_slot-cons : (a : Arrival) (came : List Arrival) →
        in_slot (a ∷ came) a.slot ≤ in_slot came a.slot + of (a.cell ∷ [])
    unfolding in_slot
    in_slot-cons a came = total_more (λ k. of (found (a ∷ came) a.slot k)) (λ k. of (found came a.slot k))
        a.cell.id.input (of (a.cell ∷ [])) 0 inputs (λ k ne. ap of (other_input a came a.slot k (λ e. ne (sym e))))
        (search (arith, rules, found, a.cell, found_here))

    slots_within : (came : List Arrival) (n : ℕ) → total (in_slot came) 0 n ≤ bound came
    unfolding in_slot
    slots_within [] n = search (arith, rules, total_none, found, found_none)
    slots_within (a ∷ came) n =
        let now = total_more (in_slot (a ∷ came)) (in_slot came) a.slot (of (a.cell ∷ [])) 0 n in
        search (arith, rules, now, total_same, found, other_slot, in_slot-cons a came, slots_within came n)

  -- in any number of slots
  pub weighed : (came : List Arrival) (n : ℕ) → total (λ t. here (arriving came t)) 0 n ≤ bound came
  weighed came n = search (arith, rules, total_same, slots_within most_ports refl came n, is_in_slot most_ports)

-- ## The end of the arrivals

pub before_end : (came : List Arrival) → AllByRecursion (λ a. a.slot < end_of came) came
before_end [] = tt
before_end (a ∷ came) = grind (arith, common_steps, all_weaker, before_end came)

never_at : (came : List Arrival) (t k : ℕ) → end_of came ≤ t → arriving_at came t k ≡ None
never_at [] t k le = refl
never_at (a ∷ came) t k le = grind (arith, common_steps, and_left, ne_eqb, cond-false, never_at came t k)

pub none_arrive : (came : List Arrival) (t inputs : ℕ) → inputs ≡ most_ports → end_of came ≤ t →
    arriving came t ≡ replicate inputs None
none_arrive came t inputs are le =
    let none = fill_by_all (arriving_at came t) (replicate inputs None) inputs None in
    search (arith, rules, none, length-replicate, same_at, never_at, arriving_is)

pub none_after : (came : List Arrival) (t : ℕ) → end_of came ≤ t → length (present (arriving came t)) ≡ 0
none_after came t le = ap (λ cells. length (present cells)) (none_arrive came t most_ports refl le)

pub quiet_from : (came : List Arrival) (e a n : ℕ) → end_of came ≤ a + e →
    come_count (drop e (map (arriving came) (range_with_len a n))) ≡ 0
unfolding come_count
quiet_from came zero a (suc n) le = search (arith, rules, none_after, quiet_from came zero (a + 1) n)
quiet_from came (suc e) a (suc n) le = quiet_from came e (a + 1) n (omega arith)
quiet_from came e a n le = refl

-- ## Cells counted

count_from : (came : List Arrival) (a n : ℕ) →
    come_count (map (arriving came) (range_with_len a n)) ≡ total (λ t. length (present (arriving came t))) a n
unfolding come_count total
count_from came a zero = refl
count_from came a (suc n) = let rest = count_from came (a + 1) n in omega arith

-- in any number of slots
pub come_count-first : (came : List Arrival) (n : ℕ) →
    come_count (map (arriving came) (range_with_len 0 n)) ≤ length came
come_count-first came n =
    let weigh = weighed length (λ cells. length (present cells)) length refl refl in
    let most = weigh (λ o cells. grind (arith, common_steps)) (λ a all. omega arith) came n in
    omega (arith, most, count_from came 0 n)

pub come_count-traffic_of : (came : List Arrival) → come_count (traffic_of came) ≤ length came
unfolding traffic_of
come_count-traffic_of came = come_count-first came (enough came)
