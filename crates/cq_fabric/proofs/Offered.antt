-- The offers follow the lists. Where one cell comes, the list of its input changes in the pair of this input and the
-- cell's output, and in no other, and in none where a more urgent cell for its output waits there. Where a matching
-- is transferred, the lists change in its pairs. All keys of waiting cells differ before and after: a cell that comes
-- has a key that none had, and cells that leave take theirs away. So the first cells of different lists have
-- different keys, as the offers ask.
use Rattle.cq_fabric.proofs.Terms.{common_steps, rules, ◌≡◌, ◌≢◌, ℕ, ◌+◌, ◌<◌, ◌≤◌, ◌⊎◌, true, List, length, map, get_or, set, replicate, Option, Some, None, sym, ap, ◌∙◌, arith, All, insert, cases_eq, cases_lt, length-map, length-replicate, get_or_default, get_or-set_same, get_or-set_other, length-set, Queued, MoreUrgentAhead, cushion, with_arrival, place_of_arrival, Waiting, cells_of, list_of, FirstKeysDiffer, first_key, key_before, orders_of, Moves, list_taken, Orders, ports, Partners, partner_of, with_pair, IsAmong, came_to, among_insert, was_waiting, KeysApart, ComeApart, Comes, list_at, list_with, AreSameWithout, IsSameBut, same_list, same_but_arrival, same_but_taken, same_without, most_ports, cells-at}
use Rattle.std.proofs.Math.ListN.{get_or-map}
use Rattle.cq_prefs.proofs.BehindFirst.{comes_behind, same_offers}
use Rattle.cq_fabric.proofs.Queued.{firsts_apart}

-- the lists are as many as ports are offered
pub as_offered : (lists : List Waiting) (o : Orders) → o ≡ orders_of (cells_of lists) → ports o ≡ length lists
as_offered lists o e = grind (arith, common_steps, length-map)

-- ## One cell comes

-- a cell has come to the list of input n with this cushion, and to no other
pub record HasCome (lists lists' : List Waiting) (n cushion : ℕ) (c : Queued) : Type 0 where
  pub long : length lists' ≡ length lists
  pub here : (list_at lists' n).cells ≡ with_arrival cushion c (list_at lists n).cells
  pub others : (k : ℕ) → k ≢ n → list_at lists' k ≡ list_at lists k

-- the list of an input that has been set
pub set_came : (lists : List Waiting) (n cushion : ℕ) (c : Queued) (old w : Waiting) → n < length lists →
    w.cells ≡ with_arrival cushion c (get_or lists n old).cells → HasCome lists (set lists n w) n cushion c
set_came lists n cushion c old w inside cells =
    grind (arith, common_steps, length-set, get_or-set_same, get_or_default, get_or-set_other)

module _ {lists lists' : List Waiting} {o : Orders} {n cushion : ℕ} {c : Queued} (comes : Comes lists o n c)
    (come : HasCome lists lists' n cushion c) where
  abbrev place : ℕ
  place = place_of_arrival cushion c (list_at lists n).cells

  other_list : (k : ℕ) → k ≢ n → list_of (cells_of lists') k ≡ list_of (cells_of lists) k
  other_list k ne = search (arith, rules, cells-at, come.others)

  this_list : list_of (cells_of lists') n ≡ insert (list_of (cells_of lists) n) place c
  this_list = cells-at lists' n ∙ come.here ∙ ap (λ l. insert l place c) (sym (cells-at lists n))

  come_apart : KeysApart (cells_of lists')
  come_apart i k x y a b e = search (rules, among_insert, this_list, other_list, cases_eq)

  pub come_differ : FirstKeysDiffer (cells_of lists')
  come_differ = firsts_apart (cells_of lists') come_apart

  -- with the one pair taken out, the orders are as before
  pub come_same : (m : Partners) → m ≡ with_pair (replicate (length lists) None) n c.cell.output →
      AreSameWithout m o (orders_of (cells_of lists'))
  come_same m is_m =
      let partner : partner_of m n ≡ Some c.cell.output = search (arith, rules, get_or-set_same, length-replicate) in
      let size : length (cells_of lists') ≡ length (cells_of lists) = search (arith, rules, length-map, come.long) in
      let here = same_but_arrival (partner_of m n) _ (list_of (cells_of lists') n) place c partner this_list in
      rw comes.offered (same_without m (cells_of lists) (cells_of lists') size (λ i. search
      (rules, here, same_list, other_list, cases_eq i n)) (firsts_apart (cells_of lists) comes.waiting) come_differ)

  -- where a more urgent cell for its output waits there, the orders are all as before
  pub come_behind : key_before (first_key c.cell.output (list_at lists n).cells) (Some c.key) ≡ true →
      MoreUrgentAhead cushion c (list_at lists n).cells → o ≡ orders_of (cells_of lists')
  come_behind before ahead =
      let alike = comes_behind cushion c (list_at lists n).cells before ahead in
      search (arith, rules, same_offers, cells-at, length-map, come.others)

-- ## Cells come, one after the other

-- what holds of the lists and the offers once the cells that came to the inputs before n are in
pub record In (came : List (Option Queued)) (buffers : List (List Queued)) (old now : List Waiting) (o : Orders)
    (n : ℕ) : Type 0 where
  pub long : length now ≡ length old
  pub done : (i : ℕ) → i < n → list_at now i ≡ list_with buffers (came_to came i) (list_at old i)
  pub waits : (i : ℕ) → n ≤ i → list_at now i ≡ list_at old i
  pub outputs : All (λ list. list.outputs ≡ length now) now
  pub offers : o ≡ orders_of (cells_of now)

module _ {came : List (Option Queued)} {buffers : List (List Queued)} {old now : List Waiting} {o : Orders} {n : ℕ}
    (had : In came buffers old now o n) where
  was_or_came : (k : ℕ) (d : Queued) → IsAmong d (list_of (cells_of now) k) →
      ((k < n) × (came_to came k ≡ Some d)) ⊎ IsAmong d (list_of (cells_of old) k)
  was_or_came k d h = search (arith, rules, cells-at, cases_lt, among_insert)

  module _ (come : ComeApart came (cells_of old)) where
    apart_so_far : KeysApart (cells_of now)
    apart_so_far i k x y a b e = search (rules, was_or_came)

    older_so_far : (c : Queued) → came_to came n ≡ Some c → (k : ℕ) (d : Queued) →
        IsAmong d (list_of (cells_of now) k) → d.key ≢ c.key
    older_so_far c is k d h e = search (rules, was_or_came)

    -- one more comes
    pub next_comes : (c : Queued) → came_to came n ≡ Some c → n < length now → length now ≤ most_ports → Comes now o n c
    next_comes c is inside few = search (rules, apart_so_far, older_so_far)

  pub one_in : (new : List Waiting) (o' : Orders) (c : Queued) → came_to came n ≡ Some c → length new ≡ length now →
      list_at new n ≡ list_with buffers (Some c) (list_at now n) →
      ((i : ℕ) → i ≢ n → list_at new i ≡ list_at now i) → o' ≡ orders_of (cells_of new) →
      In came buffers old new o' (n + 1)
  one_in new o' c is long list others follows = search (arith, rules, cases_eq, get_or_default)

  pub none_in : came_to came n ≡ None → In came buffers old now o (n + 1)
  none_in is = grind (arith, common_steps, had.waits, had.done, cases_eq)

-- ## A transfer

module _ (m : Partners) (lists lists' : List Waiting) (buffers buffers' : List (List Queued))
    (apart : KeysApart (cells_of lists)) (moves : Moves m (cells_of lists) buffers (cells_of lists') buffers') where
  pub moved_apart : KeysApart (cells_of lists')
  moved_apart i k c d a b e = apart i k c d (was_waiting moves i c a) (was_waiting moves k d b) e

  taken_same : (p : Option ℕ) (old new : List Queued) → new ≡ list_taken p old → IsSameBut p old new
  taken_same p old new e = search (arith, rules, same_list p old new, same_but_taken p old new)

  -- with the pairs of the matching taken out, the orders are as before
  pub moved_same : (o : Orders) → o ≡ orders_of (cells_of lists) → AreSameWithout m o (orders_of (cells_of lists'))
  moved_same o is =
      rw is (search (rules, same_without, taken_same, moves.taken, firsts_apart, moved_apart))

  pub moved_outputs : All (λ list. list.outputs ≡ length lists) lists →
      map (λ w. w.outputs) lists' ≡ map (λ w. w.outputs) lists → All (λ list. list.outputs ≡ length lists) lists'
  moved_outputs all outputs k d l = search (arith, rules, length-map, get_or-map (λ (w : Waiting). w.outputs))

pub ruleset new_steps = (length-replicate)
