-- Lists and buffers with their rooms. A cell that goes into a list takes the room that the list has for it, and a
-- cell that leaves gives it back, so that no list and no buffer can hold more cells, or fewer, than before.
use Rattle.cq_fabric.proofs.Terms.{common_steps, rules, ◌≡◌, ℕ, ◌+◌, ◌<◌, ◌≤◌, ◌^◌, All, cases_lt, get_or_past, cond, List, [], ◌∷◌, length, map, get_or, drop, Option, Some, ◌∙◌, ⊎_elim, arith, replicate, is_some, slice_get, cond_both, length-map, ext_get_or, get_or-replicate, length-insert, Queued, first_for, without_first, rests, Waiting, cells_of, Buffered, cells_in, list_of, FirstKeysDiffer, orders_of, output_order, Moves, Partners, IsMatching, are_orders, HaveCells, HaveRoom, MovesRoom, list_spare, buffer_spare, partner_or_free, length_put, came_to, from_first, Queues, FitLists, KeysApart, CanCross, FitEach, AreSquare, list_room, buffer_room, no_list, list_at, list_with, popped, most_ports, cells-at, cells_in-at, no_buffer, whole}
use Rattle.std.proofs.Math.ListN.{get_or-map}
use Rattle.std.proofs.lemmas.Simd.{map-map}

-- what clauses see of these lists and buffers
abbrev pub shown : List Waiting → List Buffered → Queues
shown lists buffers =
    record {
      inputs = cells_of lists;
      buffers = cells_in buffers;
      from_inputs = map list_room lists;
      to_outputs = map buffer_room buffers;
    }

pub room-at : (lists : List Waiting) (i : ℕ) → get_or (map list_room lists) i 0 ≡ list_room (list_at lists i)
room-at lists i = get_or-map (λ (w : Waiting). length w.cells + w.spare) lists i no_list

-- a room is what waits and what is spare
list_room_is : (lists : List Waiting) (i : ℕ) →
    get_or (map list_room lists) i 0 ≡ length (list_of (cells_of lists) i) + list_spare lists i
list_room_is lists i = rw (cells-at lists i) (room-at lists i)

pub buffer_room_is : (buffers : List Buffered) (j : ℕ) →
    get_or (map buffer_room buffers) j 0 ≡ length (list_of (cells_in buffers) j) + buffer_spare buffers j
buffer_room_is buffers j =
    rw (cells_in-at buffers j) (get_or-map (λ (b : Buffered). length b.cells + b.spare) buffers j no_buffer)

-- a number of 64 bits counts how many cells any buffer can hold
pub rooms_fit : (rooms : List ℕ) → All (λ room. room < 2 ^ 64) rooms → (j : ℕ) → get_or rooms j 0 < 2 ^ 64
rooms_fit rooms all j = grind (arith, common_steps, get_or_past, cases_lt)

-- ## Lists of lists

-- rooms that are the same place by place
same_rooms : {X : Type 0} (room : X → ℕ) (new old : List X) → length new ≡ length old →
    ((i : ℕ) → i < length new → get_or (map room new) i 0 ≡ get_or (map room old) i 0) → map room new ≡ map room old
same_rooms room new old long each =
    search (arith, rules, ext_get_or 0 (map room new) (map room old), length-map new room, length-map old room)

-- ## Arrivals

pub fit_each : (lists : List Waiting) (buffers : List Buffered) (came : List (Option Queued)) (n : ℕ) →
    AreSquare lists buffers n → FitLists came (shown lists buffers) → FitEach (cells_in buffers) came lists
fit_each lists buffers came n square fit i c inside is =
    search (rules, list_room_is, length-map, square.outputs, cells-at)

room_with : (buffers : List (List Queued)) (came : Option Queued) (w : Waiting) →
    ((c : Queued) → came ≡ Some c → 0 < w.spare) → list_room (list_with buffers came w) ≡ list_room w
room_with buffers came w spare = search (arith, rules, length-insert, spare)

-- the cells that came went into these lists, which fit
pub record HaveCome (lists : List Waiting) (buffers : List Buffered) (came : List (Option Queued)) (n : ℕ)
    (lists' : List Waiting) : Type 0 where
  pub square : AreSquare lists buffers n
  pub fit : FitLists came (shown lists buffers)
  pub long : length lists' ≡ length lists
  pub each : (i : ℕ) → i < length lists →
      list_at lists' i ≡ list_with (cells_in buffers) (came_to came i) (list_at lists i)

module _ {lists : List Waiting} {buffers : List Buffered} {came : List (Option Queued)} {n : ℕ} {lists' : List Waiting}
    (known : HaveCome lists buffers came n lists') where
  pub arrived_rooms : map list_room lists' ≡ map list_room lists
  arrived_rooms = same_rooms list_room lists' lists known.long (λ i l.
      let fits = fit_each lists buffers came n known.square known.fit i in search (arith, rules, room_with, room-at))

-- ## A transfer

-- first cells for one output in different lists have different keys
pub firsts_apart : (lists : List (List Queued)) → KeysApart lists → FirstKeysDiffer lists
firsts_apart lists apart j i k c d a b e =
    apart i k c d (from_first j (list_of lists i) c a).0 (from_first j (list_of lists k) d b).0 e

pub has_cell : (q : Queues) (m : Partners) → CanCross q → IsMatching (orders_of q.inputs) m → HaveCells m q.inputs
has_cell q m can matching i j p =
    grind (arith, common_steps, are_orders q.inputs, firsts_apart q.inputs can.apart, matching.offered i j p)

-- a matching has a place for each input
pub matched_long : (inputs : List (List Queued)) (m : Partners) → IsMatching (orders_of inputs) m →
    length m ≡ length inputs
matched_long inputs m matching = matching.size ∙ length-map inputs output_order

pub have_room : (lists : List Waiting) (buffers : List Buffered) (m : Partners) → CanCross (shown lists buffers) →
    HaveCells m (cells_of lists) → HaveRoom m buffers
have_room lists buffers m can have i j p = omega (arith, can.room i j (have i j p), buffer_room_is buffers j)

without_one : (j : ℕ) (xs : List Queued) (c : Queued) → first_for j xs ≡ Some c →
    length (without_first j xs) + 1 ≡ length xs
without_one j [] c h = absurd (let P : ⊥ = cc in P)
without_one j (x ∷ xs) c h = grind (arith, common_steps, cond_both, without_one j xs c)

-- the first cells of the pairs of a matching went from these lists into these buffers
pub record HaveCrossed (m : Partners) (lists : List Waiting) (buffers : List Buffered) (lists' : List Waiting)
    (buffers' : List Buffered) : Type 0 where
  pub have : HaveCells m (cells_of lists)
  pub moves : Moves m (cells_of lists) (cells_in buffers) (cells_of lists') (cells_in buffers')
  pub rooms : MovesRoom m lists buffers lists' buffers'
  pub outputs : map (λ w. w.outputs) lists' ≡ map (λ w. w.outputs) lists

module _ {m : Partners} {lists : List Waiting} {buffers : List Buffered} {lists' : List Waiting}
    {buffers' : List Buffered} (known : HaveCrossed m lists buffers lists' buffers') where
  pub crossed_list_rooms : map list_room lists' ≡ map list_room lists
  crossed_list_rooms = search (arith, rules, same_rooms, length-map, list_room_is, without_one)

  pub crossed_buffer_rooms : map buffer_room buffers' ≡ map buffer_room buffers
  crossed_buffer_rooms =
      same_rooms buffer_room buffers' buffers (search (arith, rules, length-map)) (λ j _. ⊎_elim (λ r. search
      (arith, rules, buffer_room_is, length_put (known.have r.0 j r.1).0 (list_of (cells_in buffers) j)))
      (λ free. search (arith, rules, buffer_room_is)) (partner_or_free m j))

  pub crossed_square : (n : ℕ) → AreSquare lists buffers n → AreSquare lists' buffers' n
  crossed_square n square = search (arith, rules, length-map, get_or-map (λ (w : Waiting). w.outputs), square.outputs)

-- ## Departures

pub rests_shown : (buffers : List Buffered) → cells_in (map popped buffers) ≡ rests (cells_in buffers)
rests_shown buffers = search (rules, map-map)

pub rooms_shown : (buffers : List Buffered) → map buffer_room (map popped buffers) ≡ map buffer_room buffers
rooms_shown buffers = search (rules, map-map)

pub popped_square : (lists : List Waiting) (buffers : List Buffered) (n : ℕ) → AreSquare lists buffers n →
    AreSquare lists (map popped buffers) n
popped_square lists buffers n square = grind (arith, common_steps, length-map)

-- ## New queues

pub new_square : (lists : List Waiting) (buffers : List Buffered) (n k : ℕ) → k ≤ most_ports → n ≡ k →
    map (λ w. w.outputs) lists ≡ replicate k k → length lists ≡ k → length buffers ≡ k → AreSquare lists buffers n
new_square lists buffers n k few offered outputs long as_many =
    search (arith, rules, get_or-map (λ (w : Waiting). w.outputs), get_or-replicate)

-- ## One place

-- what a popped buffer is, by its parts
pub popped_by : (b b' : Buffered) (q : Option Queued) → q ≡ slice_get b.cells 0 → b'.cells ≡ drop 1 b.cells →
    b'.spare ≡ b.spare + cond (is_some q) 1 0 → b' ≡ popped b
popped_by b b' q first cells spare = grind (arith, common_steps)

pub ruleset depart_steps = (whole, length-map, map-map, popped_square, rests_shown, rooms_shown)
