-- The schedule of captures: its cells are those of its inputs, input after input, and at each input packet comes after
-- packet, each from its first cell to its last. A packet has a cell at least, its cells come one a slot, and the next
-- one begins when it has ended, or later.
use Rattle.cq_resume.proofs.Terms.{rules, ◌≡◌, ℕ, zero, suc, ◌+◌, ◌-◌, ◌<◌, List, ◌++◌, length, map, flat_map, refl, inl, inr, arith, common_steps, range_with_len, Arrival, Scheduled, IsTraffic, flat_same, ArePackets, ComeBehind, ComesNext, IsLine, IsScheduleOf, AreTables, classes_of, ports_of, Tables, all_weaker, piece, ends_before, cells_above, Captured}
use Rattle.cq_cells.specs.Schedule.{arrivals, arrivals_at, arrivals_of, cell_of, cells, packet_at, start}
use Rattle.cq_cells.proofs.Rising.{at_input, traffic_is}

module _ (t : Tables) (captures : List (List Captured)) (input : ℕ) where
  -- cell i of packet k as it arrives
  abbrev cell_in : ℕ → ℕ → Arrival
  cell_in k i = piece (start t captures input k) (cell_of t captures input k) i

  some_cells : (k : ℕ) → 0 < cells t captures input k
  unfolding cells
  some_cells k = cells_above (length (packet_at captures input k).body) t.cell_bytes

  goes_on : (k i : ℕ) → ComesNext (cell_in k i) (cell_in k (i + 1))
  unfolding cell_of
  goes_on k i = (omega arith, inl (refl, refl, refl))

  begins : (k : ℕ) (a : Arrival) → a.cell.id.packet < k → a.slot < start t captures input k → ComesNext a (cell_in k 0)
  unfolding cell_of
  begins k a packet slot = (omega arith, inr (packet, refl))

  -- the cells of a packet behind one of them, and then those of later ones
  behind : (k i n : ℕ) (rest : List Arrival) → ComeBehind (cell_in k (i + n)) rest →
      ComeBehind (cell_in k i) (map (cell_in k) (range_with_len (i + 1) n) ++ rest)
  behind k i zero rest last = grind (arith, common_steps)
  behind k i (suc n) rest last = grind (arith, common_steps, goes_on, behind k (i + 1) n rest)

  named_by : (k i : ℕ) → ((cell_in k i).cell.id.packet ≡ k) × ((cell_in k 0).cell.id.index ≡ 0)
  unfolding cell_of
  named_by k i = (refl, refl)

  abbrev packets_from : ℕ → ℕ → List Arrival
  packets_from k m = flat_map (arrivals_of t captures input) (range_with_len k m)

  -- the cells of a packet of so many behind its first one, and then those of later packets
  one_packet : (k n : ℕ) (rest : List Arrival) → cells t captures input k ≡ suc n →
      ((a : Arrival) → a.cell.id.packet < k + 1 → a.slot < start t captures input (k + 1) → ComeBehind a rest) →
      ComeBehind (cell_in k 0) (map (cell_in k) (range_with_len (0 + 1) n) ++ rest)
  one_packet k n rest many later = grind (arith, common_steps, named_by, ends_before, behind)

  come_behind : (k m : ℕ) (a : Arrival) → a.cell.id.packet < k → a.slot < start t captures input k →
      ComeBehind a (packets_from k m)
  come_behind k zero a packet slot = tt
  come_behind k (suc m) a packet slot =
      let some = some_cells k in
      let many : cells t captures input k ≡ suc (cells t captures input k - 1) = omega arith in
      rw many (begins k a packet slot, one_packet k (cells t captures input k - 1) _ many (come_behind (k + 1) m))

  line_of : (m : ℕ) → IsLine (packets_from 0 m)
  line_of zero = tt
  line_of (suc m) =
      let some = some_cells 0 in
      search (arith, rules, named_by, one_packet 0 (cells t captures input 0 - 1) (packets_from (0 + 1) m), come_behind)

-- what is known of the schedule of tables
pub record IsKnown (t : Tables) (s : Scheduled) : Type 0 where
  pub ports : s.ports ≡ ports_of t.setup
  pub traffic : IsTraffic (ports_of t.setup) (classes_of t.setup) s.came
  pub packets : ArePackets s.ports s.came

pub schedule_known : (t : Tables) (s : Scheduled) → AreTables t → IsScheduleOf t s → IsKnown t s
unfolding arrivals arrivals_at
schedule_known t s tables is = search (arith, rules, traffic_is, flat_same, at_input, line_of, all_weaker)
