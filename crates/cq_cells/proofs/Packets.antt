-- The packets of an input, one after another. The rows so far give the arrivals so far: their number, their end, and
-- how many are for each output. So a line is laid out: where its packets go, what each step of it adds, and what stands
-- at its end.
use Rattle.cq_cells.proofs.Terms.{All-from_recursion, common_steps, rules, ◌≡◌, ℕ, zero, suc, ◌+◌, ◌-◌, ◌^◌, ◌<◌, ◌≤◌, max, eqb, cond, List, [], ◌∷◌, ◌++◌, length, map, flat_map, take, slice_index_or, slice_set, arith, range_with_len, sum_by, cases_eq, ne_eqb, append-nil, length-append, get_or-set_same, get_or-set_other, flat_map-append, filter-append, length-map-range_with_len, get_or-map-range_with_len, map-range_with_len_more, sum_by-cons, sum_by_more, sum_by-take-le, div-le_self, Arrival, end_of, Cell, Captured, file_length, Tables, route, Row, AreAdded, AreRows, row_at, line_arrivals, cells_of, packets_of, packet_at, stamp_slot, cells, start, cell_of, arrivals_of, arrivals_at, IsRecorded, is_to, number_of, ◌/◌, rows_from, PacketRow, AreTables, ports_of, few_kept, t0_of, sym, length-map, get_or-map, fill_by_all, route_output, packet_in}
use Rattle.cq_cells.proofs.Looked.{piece, no_row}
use Rattle.cq_cells.proofs.Owned.{end_of-append}
use Rattle.cq_cells.proofs.Pieces.{cells_above, cells_few}
use Rattle.cq_cells.proofs.Ranges.{range_more, flat_same}
use Rattle.cq_cells.proofs.Stamps.{row_is_of}

end_pieces : (s : ℕ) (f : ℕ → Cell) (i n : ℕ) → end_of (map (piece s f) (range_with_len i (suc n))) ≡ s + (i + suc n)
end_pieces s f i zero = omega arith
end_pieces s f i (suc n) = let rest = end_pieces s f (i + 1) n in omega arith

number_pieces : (s : ℕ) (f : ℕ → Cell) (output j i n : ℕ) → ((m : ℕ) → (f m).output ≡ output) →
    number_of (is_to j) (map (piece s f) (range_with_len i n)) ≡ cond (eqb output j) n 0
number_pieces s f output j i zero h = search (arith, rules)
number_pieces s f output j i (suc n) h = search (arith, rules, piece, number_pieces s f output j (i + 1) n h)

file_long : (ps : List Captured) → length ps ≤ file_length ps
file_long [] = omega arith
file_long (p ∷ ps) = omega (arith, sum_by-cons (λ (q : Captured). 16 + length q.body) p ps, file_long ps)

module _ (t : Tables) (captures : List (List Captured)) (input : ℕ) where
  -- the row of packet k
  abbrev pub row_of : ℕ → Row
  row_of k = record {
    start = start t captures input k;
    cells = cells t captures input k;
    output = (route t input (packet_at captures input k).body).0;
    class = (route t input (packet_at captures input k).body).1;
    len = length (packet_at captures input k).body;
  }

  -- the arrivals of the first packets
  abbrev pub came_by : ℕ → List Arrival
  came_by k = flat_map (arrivals_of t captures input) (range_with_len 0 k)

  pub came_more : (k : ℕ) → came_by (k + 1) ≡ came_by k ++ arrivals_of t captures input k
  came_more k = grind (arith, common_steps, flat_map, range_more, flat_map-append, append-nil)

  -- so there are more of them, and they end when the later ones do
  pub longer_by : (k : ℕ) → length (came_by (k + 1)) ≡ length (came_by k) + length (arrivals_of t captures input k)
  longer_by k = grind (arith, common_steps, came_more, length-append)

  pub ends_by : (k : ℕ) →
      end_of (came_by (k + 1)) ≡ max (end_of (came_by k)) (end_of (arrivals_of t captures input k))
  ends_by k = grind (arith, common_steps, came_more, end_of-append)

  pub length_packet : (k : ℕ) → length (arrivals_of t captures input k) ≡ cells t captures input k
  length_packet k = grind (arith, common_steps, length-map-range_with_len, piece)

  pub end_packet : (k : ℕ) →
      end_of (arrivals_of t captures input k) ≡ start t captures input k + cells t captures input k
  unfolding cells
  end_packet k =
      let n : ℕ = cells_of (length (packet_at captures input k).body) t.cell_bytes in
      search (arith, rules, cells_above, end_pieces (start t captures input k) (cell_of t captures input k) 0 (n - 1))

  -- a packet begins where those before it have ended, or later
  pub start_by : (k : ℕ) → start t captures input k ≡ max (stamp_slot t captures input k) (end_of (came_by k))
  unfolding start
  start_by zero = omega arith
  start_by (suc k) = grind (arith, common_steps, ends_by k, end_packet k, start_by k)

  -- what is kept of the packets so far
  pub record IsSoFar (k : ℕ) (rows : List Row) (free cells : ℕ) (old counts : List ℕ) : Type 0 where
    pub kept : rows ≡ map row_of (range_with_len 0 k)
    pub ended : free ≡ end_of (came_by k)
    pub all : cells ≡ length (came_by k)
    pub ports : length counts ≡ length old
    pub each : AreAdded (came_by k) old counts

  -- a count that is set
  ruleset set_steps = (slice_index_or, slice_set, get_or-set_same, get_or-set_other)

  -- the counts with a packet more
  added_more : (k : ℕ) (old counts : List ℕ) (output v : ℕ) → output ≡ (row_of k).output →
      v ≡ slice_index_or counts output 0 + cells t captures input k → length counts ≡ length old →
      AreAdded (came_by k) old counts → AreAdded (came_by (k + 1)) old (slice_set counts output v)
  unfolding cell_of
  added_more k old counts output v at new ports each j inside =
      let count = number_pieces (start t captures input k) (cell_of t captures input k) (row_of k).output j 0 in
      search (arith, rules, came_more, filter-append, length-append, count, cases_eq, ne_eqb, set_steps)

  -- one packet more
  pub so_far_more : (k : ℕ) (rows : List Row) (free all : ℕ) (old counts : List ℕ) (row : Row) (v : ℕ) →
      IsSoFar k rows free all old counts → row ≡ row_of k → v ≡ slice_index_or counts row.output 0 + row.cells →
      IsSoFar (k + 1) (rows ++ row ∷ []) (row.start + row.cells) (all + row.cells) old (slice_set counts row.output v)
  so_far_more k rows free all old counts row v s is new =
      let rows_more = map-range_with_len_more row_of 0 k k in
      search (arith, rules, ends_by, longer_by, end_packet, start_by, length_packet, added_more)

  -- each cell stands for a byte of the file or more
  cells_by : (k : ℕ) → 1 ≤ t.cell_bytes → k ≤ length (packets_of captures input) →
      length (came_by k) ≤ sum_by (λ (p : Captured). 16 + length p.body) (take k (packets_of captures input))
  unfolding cells
  cells_by zero some h = omega arith
  cells_by (suc k) some h =
      let more = sum_by_more (λ (p : Captured). 16 + length p.body) (packets_of captures input) k in
      let place : suc k ≡ k + 1 = omega arith in
      search (arith, rules, more, cells_few, longer_by k, length_packet k, cells_by k some)

  -- a capture has few cells
  pub few_by : (k : ℕ) → 1 ≤ t.cell_bytes → IsRecorded (packets_of captures input) →
      k ≤ length (packets_of captures input) → length (came_by k) ≤ 2 ^ 28
  few_by k some r h = grind (arith, common_steps, cells_by, sum_by-take-le)

  -- and they end early
  pub early_by : (k : ℕ) → IsRecorded (packets_of captures input) → k ≤ length (packets_of captures input) →
      end_of (came_by k) ≤ 2 ^ 63 + length (came_by k)
  unfolding stamp_slot
  early_by zero r h = omega arith
  early_by (suc k) r h =
      let stamp = All-from_recursion (λ (p : Captured). p.stamp < 2 ^ 63) (packets_of captures input) r.stamps in
      search (arith, rules, longer_by k, ends_by, stamp, div-le_self, length_packet, end_packet, start_by, early_by k r)

  -- a packet has ended when a later one begins
  pub ends_before : (j k : ℕ) → j < k → start t captures input j + cells t captures input j ≤ start t captures input k
  unfolding start
  ends_before j zero h = absurd (omega arith)
  ends_before j (suc k) h = grind (arith, common_steps, cases_eq, ends_before j k)

  row_at_is : (n k : ℕ) → k < n → row_at (map row_of (range_with_len 0 n)) k ≡ row_of k
  row_at_is n k h = get_or-map-range_with_len row_of 0 n k k no_row h (omega arith)

  -- the rows of packets give their arrivals
  pub line_is : line_arrivals input t.cell_bytes (map row_of
      (range_with_len 0 (length (packets_of captures input)))) ≡ arrivals_at t captures input
  unfolding line_arrivals arrivals_at cell_of
  line_is = search (rules, flat_map, length-map-range_with_len, flat_same, row_at_is)

  -- the rows of packets can be looked up
  pub rows_are : 1 ≤ t.cell_bytes → IsRecorded (packets_of captures input) →
      AreRows t.cell_bytes (map row_of (range_with_len 0 (length (packets_of captures input))))
  unfolding cells
  rows_are some r =
      let ps = packets_of captures input in
      let many = length-map-range_with_len row_of 0 (length ps) in
      record {
        some = some;
        few = omega (arith, file_long ps);
        small = λ k h. search (arith, rules, longer_by k, row_at_is, few_by (k + 1) some r, length_packet k);
        cut = search (arith, rules, row_at_is);
        apart = λ j k b h. search (arith, rules, row_at_is, ends_before j k b);
      }

-- ## Routes

abbrev no_packet : Captured
no_packet = record { stamp = 0; original = 0; body = [] }

-- by their numbers, or one after another
pub map-packet_in : {Y : Type 0} (f : Captured → Y) (ps : List Captured) →
    map (λ (k : ℕ). f (packet_in ps k)) (range_with_len 0 (length ps)) ≡ map f ps
map-packet_in f ps = sym (fill_by_all (λ (k : ℕ). f (packet_in ps k)) (map f ps) (length ps) (f no_packet)
    (length-map ps f) (λ k h. get_or-map f ps k no_packet (f no_packet) h))

-- ## Rows

abbrev no_place : PacketRow
no_place = record { stamp = 0; original = 0; at = 0; len = 0 }

-- the packets that are gone through are those of the input, and they were recorded
pub record AreRead (captures : List (List Captured)) (input : ℕ) (ps : List Captured) (places : List PacketRow) :
    Type 0 where
  pub same : ps ≡ packets_of captures input
  pub placed : places ≡ rows_from 24 ps
  pub many : length places ≡ length (packets_of captures input)
  pub recorded : IsRecorded (packets_of captures input)

-- a row is that of packet k, which goes to a port, and with it the counts stay small
pub record IsMade (t : Tables) (captures : List (List Captured)) (input k : ℕ) (row : Row) (all : ℕ)
    (old counts : List ℕ) : Type 0 where
  pub is : row ≡ row_of t captures input k
  pub to_port : row.output < ports_of t.setup
  pub ends : row.start + row.cells ≤ 2 ^ 63 + 2 ^ 28
  pub few : all + row.cells ≤ 2 ^ 28
  pub each : slice_index_or counts row.output 0 + row.cells ≤ slice_index_or old row.output 0 + 2 ^ 28

pub next_row : (t : Tables) (captures : List (List Captured)) (input k : ℕ) (ps : List Captured)
    (places : List PacketRow) (ways : List (ℕ × ℕ)) (row : Row) (origin free all : ℕ) (rows : List Row)
    (old counts : List ℕ) → AreTables t → AreRead captures input ps places → k < length places →
    ways ≡ map (λ (p : Captured). route t input p.body) (packets_of captures input) →
    length old ≡ ports_of t.setup → IsSoFar t captures input k rows free all old counts → origin ≡ t0_of captures →
    row.start ≡ max (((slice_index_or places k no_place).stamp - origin) / t.slot_ns) free →
    row.cells ≡ cells_of (slice_index_or places k no_place).len t.cell_bytes →
    (row.output, row.class) ≡ slice_index_or ways k (0, 0) → row.len ≡ (slice_index_or places k no_place).len →
    IsMade t captures input k row all old counts
unfolding stamp_slot cells
next_row t captures input k ps places ways row origin free all rows old counts tables read inside sent ports s from
    starts cut routed long =
    let its = row_is_of 24 ps k no_place (record { stamp = 0; original = 0; body = [] }) in
    let to = route_output t input (packet_at captures input k).body tables in
    let made : row ≡ row_of t captures input k =
    grind (arith, common_steps, start_by, row_is_of, slice_index_or, get_or-map, its) in
    let few = few_by t captures input (k + 1) tables.cell_bytes.0 read.recorded in
    let early = early_by t captures input (k + 1) read.recorded in
    search (arith, rules, longer_by, ends_by, few, early, end_packet, length_packet, few_kept, came_by, s.each)

-- what stands at the end of a line
pub record IsWhole (t : Tables) (captures : List (List Captured)) (input : ℕ) (rows : List Row) (free cells : ℕ)
    (old counts : List ℕ) : Type 0 where
  pub line : line_arrivals input t.cell_bytes rows ≡ arrivals_at t captures input
  pub kept : AreRows t.cell_bytes rows
  pub all : cells ≡ length (line_arrivals input t.cell_bytes rows)
  pub few : cells ≤ 2 ^ 28
  pub ended : free ≡ end_of (line_arrivals input t.cell_bytes rows)
  pub each : AreAdded (arrivals_at t captures input) old counts

pub at_end : (t : Tables) (captures : List (List Captured)) (input k : ℕ) (rows : List Row) (free all : ℕ)
    (old counts : List ℕ) → 1 ≤ t.cell_bytes → IsRecorded (packets_of captures input) →
    k ≡ length (packets_of captures input) → IsSoFar t captures input k rows free all old counts →
    IsWhole t captures input rows free all old counts
unfolding arrivals_at
at_end t captures input k rows free all old counts some r last s =
    grind (arith, common_steps, row_of, line_is, came_by, rows_are, few_by)
