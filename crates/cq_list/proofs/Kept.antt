-- The places and the pool of a list, before and after its calls. The cells for which they stand are known by the split
-- alone, so each call has to show no more than the split of the cells that it promises; that these are the cells that
-- the new places and the new pool stand for follows.
use Rattle.cq_list.proofs.Terms.{◌+◌, all_insert, all_left, each_pair_left, keys_differ_insert, keeps_order_arrival, common_steps, rules, ◌≡◌, ℕ, ◌<◌, eqb, Bool, cond, List, length, set, take, drop, min, None, Some, sym, ap, ◌∙◌, subst, arith, length-set, get_or-set_same, get_or-set_other, length-map, get_or_past, ◌&&◌, slice_get, remove, insert, position, position_or_len, cond_both, eqb-true, eqb-false, ltb-true, lt-ltb, cases_lt, slice_get-map, slice_get_within, slice_get_cases, find_at, Queued, is_before, HasOtherKey, MoreUrgentAhead, is_for, first_for, without_first, put, place_of_arrival, with_arrival, IsSplit, is_output, place_of_nth, count_of, PlacesView, PoolView, queue_of, Waiting, AreWaiting, StandFor, cells_in, position_or_len-map}
use Rattle.cq_list.proofs.Split.{merged_queues, split_arrived, split_left, both_is_nth, first-is-head, length-filter-map, cell_at}
use Rattle.cq_list.proofs.Nth.{nth_is_first}

-- an output with a cell is one of them
pub queue_inside : (queues : List (List Queued)) (j : ℕ) (x : Queued) → slice_get (queue_of queues j) 0 ≡ Some x →
    j < length queues
queue_inside queues j x head = grind (arith, common_steps, slice_get_within, get_or_past, cases_lt)

-- they stand for no other cells than those that are seen
pub cells_are : {outputs : ℕ} {places : PlacesView} {pool : PoolView} {xs : List Queued} →
    StandFor outputs places pool xs → cells_in places pool ≡ xs
cells_are {pool = pool} {xs} s = grind (arith, common_steps, merged_queues xs (queue_of pool.queues))

pub kept : {outputs : ℕ} {places : PlacesView} {pool : PoolView} {xs : List Queued} → StandFor outputs places pool xs →
    StandFor outputs places pool (cells_in places pool)
kept {outputs} {places} {pool} s = subst (StandFor outputs places pool) (sym (cells_are s)) s

-- one queue is changed
pub queue_of-set : (queues : List (List Queued)) (j : ℕ) (f : List Queued → List Queued) (i : ℕ) → j < length queues →
    queue_of (set queues j (f (queue_of queues j))) i ≡ cond (eqb j i) (f (queue_of queues i)) (queue_of queues i)
queue_of-set queues j f i inside = search (rules, cond_both, eqb-true, get_or-set_same, get_or-set_other, eqb-false)

module _ {outputs : ℕ} {places : PlacesView} {pool : PoolView} {w : Waiting}
    (stand : StandFor outputs places pool (cells_in places pool))
    (is : record { cells = cells_in places pool; outputs = outputs; spare = pool.spare } ≡ w) where
  -- what they stand for is what is seen
  pub had : StandFor outputs places pool w.cells
  had = subst (StandFor outputs places pool) (ap (λ (v : Waiting). v.cells) is) stand

  -- ## An arrival

  pub as_many : length places.outputs ≡ length w.cells
  as_many = ap length had.split.outputs ∙ length-map w.cells (λ (x : Queued). x.cell.output)

  -- an output has as many places as cells
  pub counted : (j : ℕ) → length (queue_of pool.queues j) ≡ count_of j places.outputs
  counted j = grind (arith, common_steps, length-filter-map)

  -- what they stand for where one queue is changed
  changed : (j : ℕ) (f : List Queued → List Queued) (outs : List ℕ) (xs : List Queued) {new_places : PlacesView}
      {new_pool : PoolView} → j < length pool.queues → AreWaiting outputs xs →
      IsSplit outs (λ i. cond (eqb j i) (f (queue_of pool.queues i)) (queue_of pool.queues i)) xs →
      new_places.outputs ≡ outs → new_pool.queues ≡ set pool.queues j (f (queue_of pool.queues j)) →
      new_places.spare ≡ new_pool.spare → StandFor outputs new_places new_pool xs
  changed j f outs xs inside waiting split places_are queues_are spare =
      grind (arith, common_steps, queue_of-set pool.queues j f, length-set)

  -- it goes in at the place that is computed from the first less urgent cell of its queue
  pub arrived : (cushion : ℕ) (c : Queued) {ahead later place : ℕ} {new_places : PlacesView} {new_pool : PoolView} →
      c.cell.output < w.outputs → HasOtherKey c w.cells → MoreUrgentAhead cushion c w.cells →
      ahead ≡ position_or_len (λ x. is_before c.key x.key) (queue_of pool.queues c.cell.output) →
      later ≡ place_of_nth (is_output c.cell.output) ahead places.outputs →
      place ≡ min cushion (min later (length places.outputs)) →
      new_places.outputs ≡ insert places.outputs place c.cell.output → new_pool.queues ≡ set pool.queues c.cell.output
      (put c (queue_of pool.queues c.cell.output)) → new_places.spare + 1 ≡ places.spare →
      new_pool.spare + 1 ≡ pool.spare → StandFor outputs new_places new_pool (with_arrival cushion c w.cells)
  arrived cushion c {place = place} inside other urgent a l p outs queues less fewer =
      let known = had in
      let at : place ≡ place_of_arrival cushion c w.cells =
      grind (arith, common_steps, both_is_nth places.outputs (queue_of pool.queues) w.cells c.cell.output, as_many) in
      let split = split_arrived places.outputs (queue_of pool.queues) w.cells cushion c had.split in
      let new = changed c.cell.output (put c) in
      search (arith, rules, new, all_insert, keeps_order_arrival, keys_differ_insert, split)

  -- the place of the first cell for an output that passes a test, as it is computed
  pub place_found : (j : ℕ) (q : Queued → Bool) {ahead place : ℕ} → ahead ≡ position_or_len q (queue_of pool.queues j) →
      place ≡ place_of_nth (is_output j) ahead places.outputs → place ≡ position_or_len (λ x. is_for j x && q x) w.cells
  place_found j q {ahead} a p = cc (both_is_nth places.outputs (queue_of pool.queues) w.cells j q had.split)

  -- an output with a cell has a place
  pub some_places : (j : ℕ) (x : Queued) → slice_get (queue_of pool.queues j) 0 ≡ Some x → 0 < count_of j places.outputs
  some_places j x head = grind (arith, common_steps, slice_get_within, counted)

  -- ## A departure

  pub left : (j : ℕ) (x : Queued) {new_places : PlacesView} {new_pool : PoolView} →
      slice_get (queue_of pool.queues j) 0 ≡ Some x → new_places.outputs ≡ remove places.outputs
      (position_or_len (is_output j) places.outputs) → new_pool.queues ≡ set pool.queues j
      (drop 1 (queue_of pool.queues j)) → new_places.spare ≡ places.spare + 1 → new_pool.spare ≡ pool.spare + 1 →
      StandFor outputs new_places new_pool (without_first j w.cells)
  left j x head outs queues more larger =
      let split = split_left places.outputs (queue_of pool.queues) w.cells j had.split in
      search (arith, rules, changed j (drop 1), queue_inside, all_left, each_pair_left, split, had)

  -- ## The first cell for an output

  pub first_is : (j : ℕ) → slice_get (queue_of pool.queues j) 0 ≡ first_for j w.cells
  first_is j = ap (λ l. slice_get l 0) (had.split.queued j) ∙ sym (first-is-head j w.cells)

  -- none waits for it
  pub position-none : (j : ℕ) → slice_get (queue_of pool.queues j) 0 ≡ None → position (is_for j) w.cells ≡ None
  position-none j head = grind (arith, common_steps, find_at, first_is, cond_both, slice_get_cases, ltb-true)

  pub position-some : (j : ℕ) (x : Queued) → slice_get (queue_of pool.queues j) 0 ≡ Some x →
      position (is_for j) w.cells ≡ Some (position_or_len (is_output j) places.outputs)
  position-some j x head =
      search (arith, rules, as_many, lt-ltb, find_at, first_is, slice_get_within, position_or_len-map)

  -- ## The cell at a place

  -- it stands in the queue of the output of the place
  pub shown : (i j : ℕ) → slice_get places.outputs i ≡ Some j →
      (x : Queued) × (slice_get (queue_of pool.queues j)
      (count_of j (take i places.outputs)) ≡ Some x) × (slice_get w.cells i ≡ Some x)
  shown i j at =
      let cell = cell_at places.outputs (queue_of pool.queues) w.cells i in
      search (arith, rules, had, slice_get_cases w.cells i, cell, slice_get-map, slice_get_within, as_many)

-- the first cell for an output, and its place
pub ruleset first_steps = (position-none, position-some, counted, queue_inside, some_places, nth_is_first)
