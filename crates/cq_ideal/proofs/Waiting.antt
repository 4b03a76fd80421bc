-- One slot of the ideal switch by its numbers of cells. Each arriving cell is put into one list, so all lists
-- together get as many cells as arrive, and each list as many as arrive for its output. A list that is not empty
-- sends one cell. So what waits and what is sent are together what waited and what arrived, and unless nothing waits
-- after the slot fewer cells wait than waited and arrived. The number of cells that an output holds is the length of
-- its list, and stays that as cells are put into the lists.
use Rattle.cq_ideal.proofs.Terms.{common_steps, rules, ◌≡◌, ◌≢◌, ℕ, zero, suc, ◌+◌, ◌-◌, ◌<◌, ◌≤◌, cond, List, [], ◌∷◌, length, map, Option, Some, None, Result, Ok, refl, arith, is_some, slice_index_or, cases_eq, length-map, ext_get_or, get_or-map-range_with_len, length-map-range_with_len, Cell, Queued, TagFault, put, is_for, Machine, count_for, Ranking, ranking, count_to, IdealState, Sent, put_all, filled, fronts, rests, all_told, ideal_sends, ideal_slot, departures_from, departures_in, length_put, set, with_cell, with_came, list_at, cases_Bool, eqb-true, eq-eqb, get_or-set_same, get_or-set_other, length-set, get_or, get_or-map, HoldsLists, LimiterView}
use Rattle.cq_ideal.proofs.FlowStands.{after_input_ok, fits_ok, only_ok, present}

-- ## Numbers that are added over a range

-- the numbers at n places from a on, added
unfoldable pub total : (ℕ → ℕ) → ℕ → ℕ → ℕ
total f a zero = 0
total f a (suc n) = f a + total f (a + 1) n

pub total_none : (f : ℕ → ℕ) (a n : ℕ) → ((t : ℕ) → f t ≡ 0) → total f a n ≡ 0
unfolding total
total_none f a zero z = refl
total_none f a (suc n) z = let here = z a in let rest = total_none f (a + 1) n z in omega arith

pub total_same : (f g : ℕ → ℕ) (a n : ℕ) → ((t : ℕ) → a ≤ t → f t ≡ g t) → total f a n ≡ total g a n
unfolding total
total_same f g a zero e = refl
total_same f g a (suc n) e = grind (arith, common_steps, total_same f g (a + 1) n)

-- so many more at one place at most
pub total_more : (f g : ℕ → ℕ) (s d a n : ℕ) → ((t : ℕ) → t ≢ s → f t ≡ g t) → f s ≤ g s + d →
    total f a n ≤ total g a n + d
unfolding total
total_more f g s d a zero e le = omega arith
total_more f g s d a (suc n) e le = search (rules, total_same, cases_eq, total_more f g s d (a + 1) n e le)

-- ## All lists together

-- how many cells wait
unfoldable pub waiting : List (List Queued) → ℕ
waiting [] = 0
waiting (xs ∷ lists) = length xs + waiting lists

pub cell_here : Option Queued → Option Cell
cell_here None = None
cell_here (Some q) = Some q.cell

pub filled_none : (lists : List (List Queued)) → filled [] lists ≡ lists
unfolding filled
filled_none lists =
    search (arith, rules, ext_get_or [] (filled [] lists) lists, length-map-range_with_len, get_or-map-range_with_len)

pub length-filled : (came : List (Option Queued)) (lists : List (List Queued)) →
    length (filled came lists) ≡ length lists
unfolding filled
length-filled came lists = grind (arith, common_steps, length-map-range_with_len)

pub filled_at : (came : List (Option Queued)) (lists : List (List Queued)) (j : ℕ) → j < length lists →
    slice_index_or (filled came lists) j [] ≡ put_all j came (slice_index_or lists j [])
unfolding filled
filled_at came lists j inside = grind (arith, common_steps, get_or-map-range_with_len)

-- the list of an output, with one cell put into the list of its output
pub one_put : (q : Queued) (lists : List (List Queued)) (j : ℕ) → (q.cell.output ≡ j → j < length lists) →
    cond (is_for j q) (put q (list_at lists j)) (list_at lists j) ≡ list_at (with_cell q lists) j
one_put q lists j inside = search (rules, cases_Bool, eqb-true, get_or-set_same, get_or-set_other, eq-eqb)

-- with the cell that came to one input, if one did, and then those that came to the others
pub filled_next : (o : Option Queued) (came : List (Option Queued)) (lists : List (List Queued)) →
    filled (o ∷ came) lists ≡ filled came (with_came o lists)
unfolding filled
filled_next o came lists =
    let same = ext_get_or [] (filled (o ∷ came) lists) (filled came (with_came o lists)) in
    search (arith, rules, same, length-filled, length-set, filled_at, one_put)

-- a list with one cell more than before
waiting-set : (lists : List (List Queued)) (j : ℕ) (xs : List Queued) →
    length xs ≡ length (slice_index_or lists j []) + 1 →
    (waiting lists ≤ waiting (set lists j xs)) × (waiting (set lists j xs) ≤ waiting lists + 1)
unfolding waiting
waiting-set [] j xs more = grind (arith, common_steps)
waiting-set (l ∷ lists) j xs more = grind (arith, common_steps, waiting-set lists)

waiting-filled : (came : List (Option Queued)) (lists : List (List Queued)) →
    (waiting lists ≤ waiting (filled came lists))
    × (waiting (filled came lists) ≤ waiting lists + length (present (map cell_here came)))
unfolding cell_here
waiting-filled [] lists = grind (arith, common_steps, filled_none lists)
waiting-filled (o ∷ came) lists = search (arith, rules, filled_next, waiting-set, length_put, waiting-filled came)

-- what is sent of the lists, and what is left of them: less, where a cell waits
sent_of_waiting : (slot j : ℕ) (lists : List (List Queued)) →
    (length (departures_from slot j (fronts lists)) + waiting (rests lists) ≡ waiting lists)
    × (waiting (rests lists) ≤ waiting lists - 1)
unfolding waiting
sent_of_waiting slot j [] = (refl, omega arith)
sent_of_waiting slot j (xs ∷ lists) = grind (arith, common_steps, sent_of_waiting slot (j + 1) lists)

-- no list has more cells than all together
one_of_all : (lists : List (List Queued)) (j : ℕ) → length (slice_index_or lists j []) ≤ waiting lists
unfolding waiting
one_of_all [] j = omega arith
one_of_all (xs ∷ lists) j = grind (arith, common_steps, one_of_all lists)

-- ## One list

pub count_to-cells : (j : ℕ) (came : List (Option Queued)) → count_to j came ≡ count_for j (map cell_here came)
unfolding cell_here
count_to-cells j [] = refl
count_to-cells j (o ∷ came) = grind (arith, common_steps, count_to-cells j came)

pub length-put_all : (j : ℕ) (came : List (Option Queued)) (xs : List Queued) →
    length (put_all j came xs) ≡ length xs + count_to j came
length-put_all j [] xs = omega arith
length-put_all j (o ∷ came) xs = grind (arith, common_steps, length_put, length-put_all j came)

-- ## The ranking keeps the cells

pub ranked_cells : (ms : List Machine) (slot input : ℕ) (cells : List (Option Cell)) (ranks : List (List ℕ))
    (r : Ranking) → ranking ms slot input cells ranks ≡ Ok r → map cell_here r.came ≡ cells
unfolding cell_here
ranked_cells ms slot input [] ranks r h = grind (arith, common_steps, only_ok)
ranked_cells ms slot input (cell ∷ cells) ranks r h =
    search (arith, rules, after_input_ok, fits_ok, ranked_cells ms slot (input + 1) cells)

-- each output gets as many as came for it
pub came_for : (ms : List Machine) (slot : ℕ) (cells : List (Option Cell)) (ranks : List (List ℕ)) (r : Ranking) →
    ranking ms slot 0 cells ranks ≡ Ok r → (j : ℕ) → count_to j r.came ≡ count_for j cells
came_for ms slot cells ranks r ok j = cc (count_to-cells j r.came, ranked_cells ms slot 0 cells ranks r ok)

-- ## One slot

-- what a slot makes of the numbers of cells
pub record Counted (slot : ℕ) (cells : List (Option Cell)) (old : IdealState) (sent : Sent) : Type 0 where
  pub ports : length sent.after.lists ≡ length old.lists
  pub each : (j : ℕ) → j < length old.lists →
      length (slice_index_or sent.after.lists j []) ≤ length (slice_index_or old.lists j []) + count_for j cells
  -- what an output sends, and what is left of its list
  pub left : (j : ℕ) → j < length old.lists →
      cond (is_some (slice_index_or sent.gone j None)) 1 0 + length (slice_index_or sent.after.lists j [])
      ≡ length (slice_index_or old.lists j []) + count_for j cells
  pub all : length (departures_in slot sent.gone) + waiting sent.after.lists
      ≤ waiting old.lists + length (present cells)
  pub fewer : waiting sent.after.lists ≤ waiting old.lists + length (present cells) - 1
  -- where a cell waits, or waits or comes for an output, one departs
  pub waits : 0 < waiting old.lists → 0 < length (departures_in slot sent.gone)
  pub departs : (j : ℕ) → j < length old.lists → 0 < length (slice_index_or old.lists j []) + count_for j cells →
      0 < length (departures_in slot sent.gone)

-- each list then has the cells that came for its output beside its own
pub filled_long : (came : List (Option Queued)) (lists : List (List Queued)) (j : ℕ) → j < length lists →
    length (slice_index_or (filled came lists) j []) ≡ length (slice_index_or lists j []) + count_to j came
filled_long came lists j inside = grind (arith, common_steps, filled_at, length-put_all)

-- what a slot leaves once the cells are in the lists
abbrev pub sent_from : List Machine → IdealState → Sent
sent_from ms s =
    record {
      gone = fronts s.lists;
      after = record { lists = rests s.lists; ranks = all_told ms (fronts s.lists) s.ranks };
    }

-- what is sent once the cells are ranked so
abbrev pub sent_by : List Machine → IdealState → Ranking → Sent
sent_by ms old r = sent_from ms (record { lists = filled r.came old.lists; ranks = r.ranks })

left_of : (cells : List (Option Cell)) (old : IdealState) (r : Ranking) → map cell_here r.came ≡ cells → (j : ℕ) →
    j < length old.lists →
    cond (is_some (slice_index_or (fronts (filled r.came old.lists)) j None)) 1 0
    + length (slice_index_or (rests (filled r.came old.lists)) j [])
    ≡ length (slice_index_or old.lists j []) + count_for j cells
left_of cells old r same j inside =
    grind (arith, common_steps, filled_long r.came old.lists j inside, count_to-cells j r.came)

pub sends_ok : (P : Sent → Type 0) (ms : List Machine) (old : IdealState) (x : Result Ranking TagFault) (sent : Sent)
    → ideal_sends ms old x ≡ Ok sent → ((r : Ranking) → x ≡ Ok r → P (sent_by ms old r)) → P sent
sends_ok P ms old fault sent h f = grind (arith, common_steps, only_ok)

pub counted : (ms : List Machine) (slot : ℕ) (cells : List (Option Cell)) (old : IdealState) (sent : Sent) →
    ideal_slot ms slot cells old ≡ Ok sent → Counted slot cells old sent
unfolding ideal_slot departures_in
counted ms slot cells old sent h =
    sends_ok (Counted slot cells old) ms old (ranking ms slot 0 cells old.ranks) sent h (λ r is.
    let same = ranked_cells ms slot 0 cells old.ranks r is in
    let full = waiting-filled r.came old.lists in
    let gone = sent_of_waiting slot 0 (filled r.came old.lists) in
    let long = filled_long r.came old.lists in
    search (arith, rules, length-filled, length-map, left_of cells old r same, long, count_to-cells, one_of_all))

-- the lists with the cells that came, where each output holds as many more as were admitted for it
pub holds_filled : (came : List (Option Queued)) (cells : List (Option Cell)) (lists lists' : List (List Queued))
    (first now : LimiterView) → HoldsLists lists first → lists' ≡ filled came lists → now.limits ≡ first.limits →
    length now.held ≡ length first.limits →
    ((j : ℕ) → j < length first.limits → get_or now.held j 0 ≡ get_or first.held j 0 + count_for j cells) →
    ((j : ℕ) → count_to j came ≡ count_for j cells) → HoldsLists lists' now
holds_filled came cells lists lists' first now holds full limits long more same =
    let same_at = ext_get_or 0 now.held (map length lists') in
    search (arith, rules, length-map, same_at, get_or-map, filled_long came lists, length-filled)
