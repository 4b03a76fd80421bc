-- The cells of an input arrive one after another: those of a packet in consecutive slots, and those of the next
-- packet after them. Cells of two inputs have nothing to do with each other. So each arrival of the list is later
-- than those before it at its input.
use Rattle.cq_cells.proofs.Terms.{common_steps, rules, ◌≡◌, ℕ, zero, suc, ◌+◌, ◌*◌, ◌^◌, ◌<◌, ◌≤◌, List, length, map, filter, flat_map, arith, AllByRecursion, range_with_len, length-append, get_or-map-range_with_len, length-map-range_with_len, Arrival, end_of, enough, Captured, Tables, AreTables, classes_of, ports_of, route_output, route_class, packets_of, cells, start, cell_of, arrivals_of, arrivals_at, arrivals, AreOwn, all_of, flat_map-map, IsInRange, IsLater, IsTraffic, IsShort, IsRecorded, is_from, all_flat, all_made, all_of_has, all_pairs, EachPair}
use Rattle.cq_cells.proofs.Looked.{piece}
use Rattle.cq_cells.proofs.Owned.{AllFrom, counted, end_of-append}
use Rattle.cq_cells.proofs.Packets.{few_by, early_by, ends_before}
use Rattle.cq_cells.proofs.Ranges.{pairs_flat, pairs_made}

module _ (t : Tables) (captures : List (List Captured)) where
  -- the arrivals of an input come to it
  pub own_input : (input : ℕ) → AllFrom input (arrivals_at t captures input)
  unfolding arrivals_at cell_of
  own_input input = search (rules, all_flat, all_made)

  -- in range
  input_in_range : (input : ℕ) → AreTables t → input < ports_of t.setup →
      AllByRecursion (IsInRange (ports_of t.setup) (classes_of t.setup)) (arrivals_at t captures input)
  unfolding arrivals_at cell_of
  input_in_range input a inside = search (arith, rules, all_flat, all_made, route_output, route_class)

  -- the cells of a packet come from its start on, and before its end
  packet_slots : (input k : ℕ) → AllByRecursion (λ (a : Arrival). (start t captures input k ≤ a.slot) ×
      (a.slot < start t captures input k + cells t captures input k)) (arrivals_of t captures input k)
  packet_slots input k = all_made _ (piece (start t captures input k) (cell_of t captures input k)) 0
      (cells t captures input k) (λ i low high. (omega arith, omega arith))

  line_later : (input : ℕ) → EachPair IsLater (arrivals_at t captures input)
  unfolding arrivals_at
  line_later input = pairs_flat IsLater (arrivals_of t captures input) 0 (length (packets_of captures input))
      (search (arith, rules, pairs_made IsLater))
      (λ j k x y less one two same.
      let before = all_of_has _ (arrivals_of t captures input j) x (packet_slots input j) one in
      let after = all_of_has _ (arrivals_of t captures input k) y (packet_slots input k) two in
      omega (arith, before.1, after.0, ends_before t captures input j k less))

  all_later : EachPair IsLater (arrivals t captures)
  unfolding arrivals
  all_later = search (arith, rules, pairs_flat IsLater (arrivals_at t captures), line_later, all_of_has, own_input)

  pub traffic_is : AreTables t → length captures ≡ ports_of t.setup →
      IsTraffic (ports_of t.setup) (classes_of t.setup) (arrivals t captures)
  unfolding arrivals
  traffic_is a ports = record {
    in_range = all_flat _ (arrivals_at t captures) 0 (length captures) (search (arith, rules, input_in_range));
    one_by_one = all_pairs IsLater (arrivals t captures) all_later;
  }

  -- lines are short
  lines_few : (a n : ℕ) → 1 ≤ t.cell_bytes → ((i : ℕ) → i < a + n → IsRecorded (packets_of captures i)) →
      (length (flat_map (arrivals_at t captures) (range_with_len a n)) ≤ n * 2 ^ 28)
      × (end_of (flat_map (arrivals_at t captures) (range_with_len a n)) ≤ 2 ^ 63 + 2 ^ 28)
  unfolding arrivals_at
  lines_few a zero some r = (omega arith, omega arith)
  lines_few a (suc n) some r =
      grind (arith, common_steps, few_by, early_by, length-append, end_of-append, lines_few (a + 1) n some)

  pub short_is : AreTables t → length captures ≡ ports_of t.setup →
      ((i : ℕ) → i < length captures → IsRecorded (packets_of captures i)) → IsShort (arrivals t captures)
  unfolding arrivals enough
  short_is a ports r = grind (arith, common_steps, lines_few)

  -- the lines of the inputs
  pub own_lines : (a n : ℕ) → AreOwn a (map (arrivals_at t captures) (range_with_len a n))
  own_lines a zero = tt
  own_lines a (suc n) = (own_input a, own_lines (a + 1) n)

  pub all_lines : (lines : List (List Arrival)) →
      lines ≡ map (arrivals_at t captures) (range_with_len 0 (length captures)) → all_of lines ≡ arrivals t captures
  unfolding arrivals
  all_lines lines e = grind (arith, common_steps, flat_map-map)

  -- so the arrivals at an input are those of its line
  pub at_input : (input : ℕ) → input < length captures →
      filter (is_from input) (arrivals t captures) ≡ arrivals_at t captures input
  at_input input inside =
      let its = counted input 0 input (map (arrivals_at t captures) (range_with_len 0 (length captures))) in
      search (arith, rules, length-map-range_with_len, get_or-map-range_with_len, all_lines, its, own_lines)
