-- A slot is looked up in a line. The packets of a line arrive one after another, so of all packets only the last that
-- has begun can have a cell in the slot, and that is the cell as many places on as slots have gone by since. And the
-- next slot with an arrival is found. At one input the packets that have arrived whole before a slot stand first. Of
-- the others the first one begins first, and its cells come one a slot. So the slot itself has a cell where that packet
-- has begun, and else the slot in which it begins is the next one. Of several inputs the earliest counts.
use Rattle.cq_cells.proofs.Terms.{common_steps, rules, ◌≡◌, ◌≢◌, ℕ, zero, suc, ◌+◌, ◌-◌, ◌<◌, ◌≤◌, eqb, Bool, List, length, map, slice_index_or, None, Some, refl, arith, range_with_len, find, IsNonDecreasingBy, cases_eq, cases_order, ne_eqb, get_or_default, get_or_read, Arrival, Cell, Row, AreRows, IsBegun, row_cell, row_arrivals, row_at, line_arrivals, max, [], ◌∷◌, ◌++◌, flat_map, Option, inr, AllByRecursion, cases_lt, IsEnded, ArrivesIn, IsFirstFrom, IsNextArrival, earlier, all_both, all_weaker, all_made, all_flat}
use Rattle.cq_cells.proofs.Ranges.{find_none, find_only}
use Rattle.cq_cells.proofs.Pieces.{cells_above}

-- whether it arrives in the slot
abbrev pub is_in : ℕ → Arrival → Bool
is_in slot a = eqb a.slot slot

-- cells in consecutive slots
abbrev pub piece : ℕ → (ℕ → Cell) → ℕ → Arrival
piece s f j = record { slot = s + j; cell = f j }

-- none of them arrives in another slot
none_in : (s : ℕ) (f : ℕ → Cell) (i n slot : ℕ) → ((j : ℕ) → i ≤ j → j < i + n → s + j ≢ slot) →
    find (is_in slot) (map (piece s f) (range_with_len i n)) ≡ None
none_in s f i zero slot h = refl
none_in s f i (suc n) slot h =
    let other = ne_eqb (s + i) slot (h i (omega arith) (omega arith)) in
    rw other (none_in s f (i + 1) n slot (λ j b e. h j (omega arith) (omega arith)))

-- one of them arrives in its own
found_in : (s : ℕ) (f : ℕ → Cell) (i n slot j : ℕ) → i ≤ j → j < i + n → s + j ≡ slot →
    find (is_in slot) (map (piece s f) (range_with_len i n)) ≡ Some (piece s f j)
found_in s f i zero slot j from to e = absurd (omega arith)
found_in s f i (suc n) slot j from to e = search (rules, cases_eq, ne_eqb, found_in s f (i + 1) n slot j)

-- a packet has no cell before its start, nor after its end
row_none : (input cell_bytes k : ℕ) (row : Row) (slot : ℕ) →
    ((j : ℕ) → 0 ≤ j → j < 0 + row.cells → row.start + j ≢ slot) →
    find (is_in slot) (row_arrivals input cell_bytes k row) ≡ None
row_none input cell_bytes k row slot = none_in row.start (row_cell input cell_bytes k row) 0 row.cells slot

-- a row of nothing
abbrev pub no_row : Row
no_row = record { start = 0; cells = 0; output = 0; class = 0; len = 0 }

-- the starts rise
pub starts_rise : (cell_bytes : ℕ) (rows : List Row) → AreRows cell_bytes rows →
    IsNonDecreasingBy (λ row. row.start) rows
starts_rise cell_bytes rows r i j d b h = search (rules, cases_eq, slice_index_or, r.apart, get_or_default)

-- the last packet that has begun, and its row as it was read
pub record LastBegun (rows : List Row) (slot k : ℕ) (row : Row) : Type 0 where
  pub inside : k < length rows
  pub begun : IsBegun rows slot (k + 1)
  pub is : row ≡ row_at rows k
  pub before : row.start ≤ slot

-- before the first packet nothing arrives
pub line_none : (input cell_bytes : ℕ) (rows : List Row) (slot : ℕ) → IsBegun rows slot 0 →
    find (is_in slot) (line_arrivals input cell_bytes rows) ≡ None
unfolding line_arrivals
line_none input cell_bytes rows slot b = search (arith, rules, find_none, row_none, b.after)

-- later it is a cell of the last packet that has begun, if any
line_at : (input cell_bytes : ℕ) (rows : List Row) (slot k : ℕ) → AreRows cell_bytes rows → k < length rows →
    IsBegun rows slot (k + 1) →
    find (is_in slot) (line_arrivals input cell_bytes rows)
    ≡ find (is_in slot) (row_arrivals input cell_bytes k (row_at rows k))
unfolding line_arrivals
line_at input cell_bytes rows slot k r inside b = find_only (is_in slot)
    (λ j. row_arrivals input cell_bytes j (row_at rows j)) 0 (length rows) k (omega arith) (omega arith)
    (λ j f t other. search (arith, rules, cases_order, r.apart, b.before, row_none, b.after))

module _ (input cell_bytes : ℕ) (rows : List Row) (slot k : ℕ) (row : Row) (r : AreRows cell_bytes rows)
    (last : LastBegun rows slot k row) where
  -- it has ended
  pub line_over : row.cells ≤ slot - row.start → find (is_in slot) (line_arrivals input cell_bytes rows) ≡ None
  line_over over = grind (arith, common_steps, line_at input cell_bytes rows slot k r, row_none input cell_bytes k)

  -- it has not
  pub line_found : slot - row.start < row.cells →
      find (is_in slot) (line_arrivals input cell_bytes rows)
      ≡ Some (piece row.start (row_cell input cell_bytes k row) (slot - row.start))
  line_found few =
      let found = found_in row.start (row_cell input cell_bytes k row) 0 row.cells slot (slot - row.start) in
      search (arith, rules, line_at input cell_bytes rows slot k r, found)

-- ## Where a cell arrives

arrives_first : (slot : ℕ) (xs ys : List Arrival) → ArrivesIn slot xs → ArrivesIn slot (xs ++ ys)
arrives_first slot [] ys at = absurd at
arrives_first slot (x ∷ xs) ys at = grind (arith, common_steps, arrives_first slot xs ys)

arrives_second : (slot : ℕ) (xs ys : List Arrival) → ArrivesIn slot ys → ArrivesIn slot (xs ++ ys)
arrives_second slot [] ys at = at
arrives_second slot (x ∷ xs) ys at = inr (arrives_second slot xs ys at)

arrives_flat : (slot : ℕ) (f : ℕ → List Arrival) (a n k : ℕ) → a ≤ k → k < a + n → ArrivesIn slot (f k) →
    ArrivesIn slot (flat_map f (range_with_len a n))
arrives_flat slot f a zero k from to at = absurd (omega arith)
arrives_flat slot f a (suc n) k from to at =
    grind (arith, common_steps, cases_eq, arrives_first, flat_map, arrives_second, arrives_flat slot f (a + 1) n k)

arrives_piece : (slot s : ℕ) (f : ℕ → Cell) (a n i : ℕ) → a ≤ i → i < a + n → s + i ≡ slot →
    ArrivesIn slot (map (piece s f) (range_with_len a n))
arrives_piece slot s f a zero i from to at = absurd (omega arith)
arrives_piece slot s f a (suc n) i from to at = search (rules, cases_eq, arrives_piece slot s f (a + 1) n i)

-- ## One line

module _ (input cell_bytes : ℕ) (rows : List Row) (from n : ℕ) (ended : IsEnded rows from n) where
  pub line_done : length rows ≡ n → AllByRecursion (λ a. a.slot < from) (line_arrivals input cell_bytes rows)
  unfolding line_arrivals
  line_done all =
      search (arith, rules, all_flat (λ (a : Arrival). a.slot < from), all_made (λ (a : Arrival). a.slot < from))

  pub line_next : (slot : ℕ) → AreRows cell_bytes rows → n < length rows → slot ≡ max (row_at rows n).start from →
      IsFirstFrom (line_arrivals input cell_bytes rows) from slot
  unfolding line_arrivals
  line_next slot are inside is =
      let start = (row_at rows n).start in
      let cell = row_cell input cell_bytes n (row_at rows n) in
      let piece_of_last = arrives_piece slot start cell 0 (row_at rows n).cells (slot - start) in
      let some = cells_above (row_at rows n).len cell_bytes in
      let P : Arrival → Type 0 = λ a. from ≤ a.slot → slot ≤ a.slot in
      let flat = arrives_flat slot (λ (k : ℕ). row_arrivals input cell_bytes k (row_at rows k)) 0 (length rows) n in
      search (arith, rules, flat, piece_of_last, all_flat P, all_made P, cases_lt, cases_eq, are.apart, are.cut n)

-- ## Several lines

pub next_of_both : (from : ℕ) (xs ys : List Arrival) (s t : Option ℕ) → IsNextArrival xs from s →
    IsNextArrival ys from t →
    IsNextArrival (xs ++ ys) from (earlier s t)
next_of_both from xs ys None None first second = search (arith, rules, all_both)
next_of_both from xs ys None (Some t) first second = search (arith, rules, arrives_second, all_both, all_weaker)
next_of_both from xs ys (Some s) None first second = search (arith, rules, arrives_first, all_both, all_weaker)
next_of_both from xs ys (Some s) (Some t) first second =
    search (arith, rules, cases_lt, arrives_second, arrives_first, all_both, all_weaker)

pub ruleset next_steps = (get_or_read, no_row, line_done, line_next)
