-- A list split into the sequence of its outputs and a queue for each output. Each queue is the list filtered, so what
-- is done to the list is seen in the queues through the filter.
--
-- First, the split determines the list: the first place's output tells in which queue the first cell is the head, and
-- without that head the queues are those of the rest. So whoever keeps a split keeps the list, and the other lemmas
-- need not speak of the merged list at all.
--
-- Then what arrives: a cell put into the list at a place goes into its own queue behind those of its cells that stand
-- ahead of the place. Where the list keeps the order of its outputs' cells the queue is rising, and there is but one
-- place in a rising queue for a cell, which is the one that its key says.
--
-- Then what leaves: the first cell for an output is the head of its queue, and stands at the first place of the output.
--
-- Last what is looked up: a cell at a place, and the place of the first cell for an output that passes a test, which is
-- the place of the number k of its output where the number k of the queue is the first that passes.
use Rattle.cq_list.proofs.Terms.{common_steps, rules, ◌≡◌, ℕ, zero, suc, Bool, false, cond, List, [], ◌∷◌, ◌++◌, length, take, drop, map, Some, refl, sym, ap, ◌∙◌, arith, take-append-drop, take-map, ◌&&◌, slice_get, remove, insert, filter, AllByRecursion, position_or_len, cond_both, eqb-true, eq-eqb, filter-append, Queued, IsBefore, IsRising, KeepsOrder, HasOtherKey, MoreUrgentAhead, is_for, first_for, without_first, put, place_of_arrival, with_arrival, key_laws, keeps_order_arrival, first_here, first_later, Queues, without_head, merged, IsSplit, place_of_nth, is_output, count_of, all_back, map-insert}
use Rattle.cq_list.proofs.Nth.{passes, fails, first_of_both, place_of_nth-map}

-- ## One filter

pub filter-insert-other : {X : Type 0} (p : X → Bool) (xs : List X) (i : ℕ) (y : X) → p y ≡ false →
    filter p (insert xs i y) ≡ filter p xs
filter-insert-other p xs i y e =
    grind (arith, common_steps, filter-append, fails, filter-append p (take i xs) (drop i xs), take-append-drop i xs)

pub filter-parts : {X : Type 0} (p : X → Bool) (xs : List X) (i : ℕ) →
    filter p xs ≡ filter p (take i xs) ++ filter p (drop i xs)
filter-parts p xs i = sym (ap (filter p) (take-append-drop i xs)) ∙ filter-append p (take i xs) (drop i xs)

-- ## The split determines the list

-- once the first cell is out of the list, and out of its queue
behind_first : (queues : Queues) (x : Queued) (xs : List Queued) → ((j : ℕ) → queues j ≡ filter (is_for j) (x ∷ xs)) →
    (j : ℕ) → without_head x.cell.output queues j ≡ filter (is_for j) xs
behind_first queues x xs same j = grind (arith, common_steps, cond_both, passes, fails)

pub merged_queues : (cells : List Queued) (queues : Queues) → ((j : ℕ) → queues j ≡ filter (is_for j) cells) →
    merged (map (λ c. c.cell.output) cells) queues ≡ cells
merged_queues [] queues same = refl
merged_queues (x ∷ xs) queues same =
    search (arith, rules, merged_queues xs, behind_first, passes, eq-eqb, cond_both, fails)

-- ## A cell that arrives

all_filtered : (c : Queued) (j : ℕ) (xs : List Queued) → c.cell.output ≡ j →
    AllByRecursion (λ x. c.cell.output ≡ x.cell.output → IsBefore c x) xs → AllByRecursion (IsBefore c)
    (filter (is_for j) xs)
all_filtered c j [] own a = tt
all_filtered c j (x ∷ xs) own a = grind (arith, common_steps, cond_both, eqb-true, all_filtered c j xs own a.1)

-- the queue of a list that keeps the order of each output's cells is rising
pub queue_rising : (j : ℕ) (xs : List Queued) → KeepsOrder xs → IsRising (filter (is_for j) xs)
queue_rising j [] order = tt
queue_rising j (x ∷ xs) order = search (rules, cond_both, all_filtered, eqb-true, queue_rising j xs order.1)

-- a rising queue without one of its cells, to which this cell comes again
pub put_between : (before after : List Queued) (c : Queued) → IsRising (before ++ c ∷ after) →
    put c (before ++ after) ≡ before ++ c ∷ after
put_between [] [] c rising = refl
put_between [] (y ∷ after) c rising = search (arith, rules)
put_between (x ∷ before) after c rising =
    search (arith, rules, all_back (IsBefore x) before (c ∷ after), key_laws.one_way, put_between before after c)

-- the cell's own queue, after its arrival
own_arrived : (cushion : ℕ) (c : Queued) (xs : List Queued) (j : ℕ) → c.cell.output ≡ j → KeepsOrder xs →
    HasOtherKey c xs → MoreUrgentAhead cushion c xs → filter (is_for j) (with_arrival cushion c xs) ≡ put c
    (filter (is_for j) xs)
own_arrived cushion c xs j own order other ahead =
    let rising = queue_rising j (with_arrival cushion c xs) (keeps_order_arrival cushion c xs order other ahead) in
    search (arith, rules, filter-append, passes, eq-eqb, put_between, filter-parts)

-- the queues with one cell more
abbrev pub with_queued : Queued → Queues → Queues
with_queued c queues j = cond (is_for j c) (put c (queues j)) (queues j)

pub split_arrived : (places : List ℕ) (queues : Queues) (xs : List Queued) (cushion : ℕ) (c : Queued) →
    IsSplit places queues xs → KeepsOrder xs → HasOtherKey c xs → MoreUrgentAhead cushion c xs → IsSplit
    (insert places (place_of_arrival cushion c xs) c.cell.output) (with_queued c queues) (with_arrival cushion c xs)
split_arrived places queues xs cushion c s order other ahead =
    grind (arith, common_steps, map-insert, cond_both, s.queued, own_arrived, eqb-true, filter-insert-other)

-- ## The first cell for an output that leaves

-- the head of its queue is the first cell for it
pub first-is-head : (j : ℕ) (xs : List Queued) → first_for j xs ≡ slice_get (filter (is_for j) xs) 0
first-is-head j [] = refl
first-is-head j (x ∷ xs) = grind (arith, common_steps, cond_both, first-is-head j xs)

left_queued : (i j : ℕ) (xs : List Queued) →
    filter (is_for i) (without_first j xs) ≡ without_head j (λ k. filter (is_for k) xs) i
left_queued i j [] = grind (arith, common_steps)
left_queued i j (x ∷ xs) = grind (arith, common_steps, cond_both, passes, fails, eqb-true, left_queued i j xs)

outputs_left : (j : ℕ) (xs : List Queued) →
    map (λ c. c.cell.output) (without_first j xs) ≡ remove (map (λ c. c.cell.output) xs)
    (position_or_len (is_output j) (map (λ c. c.cell.output) xs))
outputs_left j [] = refl
outputs_left j (x ∷ xs) =
    let outputs = map (λ c. c.cell.output) in
    let place : is_for j x ≡ false → suc (position_or_len (is_output j) (outputs xs))
    ≡ position_or_len (is_output j) (outputs (x ∷ xs)) =
    λ e. omega (arith, first_later (is_output j) x.cell.output (outputs xs) e) in
    grind (arith, common_steps, first_here, place, outputs_left j xs)

pub split_left : (places : List ℕ) (queues : Queues) (xs : List Queued) (j : ℕ) → IsSplit places queues xs →
    IsSplit (remove places (position_or_len (is_output j) places)) (without_head j queues) (without_first j xs)
split_left places queues xs j s = search (rules, outputs_left, s.queued, left_queued)

-- ## What is looked up

pub length-filter-map : {X Y : Type 0} (p : Y → Bool) (f : X → Y) (xs : List X) →
    length (filter p (map f xs)) ≡ length (filter (λ x. p (f x)) xs)
length-filter-map p f [] = refl
length-filter-map p f (x ∷ xs) = grind (arith, common_steps, cond_both, passes, fails, length-filter-map p f xs)

-- the first cell for an output that passes a test too, found in its queue
pub both_is_nth :
    (places : List ℕ) (queues : Queues) (xs : List Queued) (j : ℕ) (q : Queued → Bool) → IsSplit places queues xs →
    position_or_len (λ x. is_for j x && q x) xs ≡ place_of_nth (is_output j) (position_or_len q (queues j)) places
both_is_nth places queues xs j q s =
    search (arith, rules, first_of_both (is_for j) q xs, place_of_nth-map, s.queued j)

-- the cell at a place, in its queue
own_at : (xs : List Queued) (i : ℕ) (c : Queued) → slice_get xs i ≡ Some c →
    slice_get (filter (is_for c.cell.output) xs) (length (filter (is_for c.cell.output) (take i xs))) ≡ Some c
own_at [] i c h = cc
own_at (x ∷ xs) zero c h = grind (arith, common_steps, passes, eq-eqb)
own_at (x ∷ xs) (suc i) c h = search (arith, rules, cond_both, passes, fails, own_at xs i c)

pub cell_at : (places : List ℕ) (queues : Queues) (xs : List Queued) (i : ℕ) (c : Queued) → IsSplit places queues xs →
    slice_get xs i ≡ Some c → slice_get (queues c.cell.output) (count_of c.cell.output (take i places)) ≡ Some c
cell_at places queues xs i c s h =
    let j : ℕ = c.cell.output in search (arith, rules, s.queued j, take-map, length-filter-map, own_at xs i c h)
