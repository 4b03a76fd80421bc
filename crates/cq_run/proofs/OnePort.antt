-- A switch of one port sends each cell in the slot in which it comes. Cells come one after another, at most one in a
-- slot. So no cell waits when a slot begins; the cell that comes is alone in the one list, and leaves.
-- The departures are the arrivals, and every packet leaves with its last cell, which alone is marked as last.
use Rattle.cq_run.proofs.Terms.{common_steps, ◌≡◌, ℕ, zero, suc, ◌+◌, ◌≤◌, Bool, List, [], ◌∷◌, map, replicate, Option, Some, None, Ok, refl, sym, arith, rules, ◌-◌, ◌*◌, flat_map, ◌==◌, append-nil, AllByRecursion, range_with_len, filter, cases_eq, eq-eqb, Arrival, arriving, arriving_at, end_of, enough, Departure, filter-append, arrivals, arrivals_at, arrivals_of, cell_of, cells, t0_of, packet_at, start, IsInRange, IsLater, IsTraffic, traffic_is, all_weaker, run_as_before, same_sent, Captured, AreTables, classes_of, ports_of, Tables, machines_of, openings_of, ideal_departures, ran_ideal, ends_packet_at, leaving, packets_out, all_leave, as_it_leaves, ne_eqb, Cell, Queued, Machine, arriving_is, first_slot, ranked_none, NoLimits, all_slots, before_end, OutPacket, one_is, most_ports, EachPair, all_both, ◌++◌, length}
use Rattle.cq_base.proofs.{Each.filter_all, Each.filter_none, Pooled.each_pair}
use Rattle.cq_base.proofs.Library.{filter_agree, le-leb, lt-leb, map-append, option_to_list}
use Rattle.cq_cells.proofs.Pieces.{cells_above}
use Rattle.cq_ideal.proofs.{Came.nobody_left, Resting.none_at, Waiting.filled_next}
use Rattle.cq_ideal.proofs.FlowCount.{all_found, found, found_here, found_none, other_slot}
use Rattle.cq_ideal.specs.Ending.{arriving_from}
use Rattle.cq_ideal.specs.IdealRun.{Ran, departures_of, ideal_run}
use Rattle.cq_ideal.specs.IdealSlot.{IdealState, Sent, departures_in, filled, ideal_slot}
use Rattle.cq_simulate.proofs.OfPackets.{filter_images}
use Rattle.cq_simulate.specs.GoingOn.{to_come}

-- ## What comes in a slot

-- a cell that comes in this slot, as an arrival
abbrev pub as_come : ℕ → Cell → Arrival
as_come slot cell = record { slot = slot; cell = cell }

all_none : (f : ℕ → Option Cell) (a n : ℕ) → ((k : ℕ) → a ≤ k → f k ≡ None) →
    map f (range_with_len a n) ≡ replicate n None
all_none f a zero e = refl
all_none f a (suc n) e = grind (arith, common_steps, all_none f (a + 1) n)

module _ (classes : ℕ) where
  -- none comes at another input
  none_there : (came : List Arrival) (t k : ℕ) → AllByRecursion (IsInRange 1 classes) came → 1 ≤ k →
      arriving_at came t k ≡ None
  none_there [] t k here other = refl
  none_there (a ∷ came) t k here other = grind (arith, common_steps, none_there came t k here.1)

  one_comes : (inputs : ℕ) → suc inputs ≡ most_ports → (came : List Arrival) (t : ℕ) →
      AllByRecursion (IsInRange 1 classes) came → arriving came t ≡ arriving_at came t 0 ∷ replicate inputs None
  one_comes inputs many came t here = grind
      (arith, common_steps, arriving_is came t (suc inputs) many, all_none (arriving_at came t), none_there came t)

  -- so what is still to come is what comes in this slot, and then what is to come from the next one on
  next_comes : (s : ℕ) (came : List Arrival) → AllByRecursion (IsInRange 1 classes) came → EachPair IsLater came →
      to_come s came ≡ map (as_come s) (found came s 0) ++ to_come (s + 1) came
  unfolding found
  next_comes s [] here later = refl
  next_comes s (a ∷ came) here later = search
      (arith, rules, le-leb, lt-leb, found_here, other_slot, found_none, all_weaker (IsLater a), next_comes s came)

-- ## One slot

-- the one list is empty
abbrev pub alone : List (List ℕ) → IdealState
alone ranks = record { lists = [] ∷ []; ranks = ranks }

filled_one : (n : ℕ) (q : Queued) → q.cell.output ≡ 0 → filled (Some q ∷ replicate n None) ([] ∷ []) ≡ (q ∷ []) ∷ []
unfolding filled
filled_one n q out =
    grind (arith, common_steps, filled_next, none_at, nobody_left (replicate n None) ((q ∷ []) ∷ []))

-- what a departure says of its cell, as an arrival
abbrev pub as_arrival : Departure → Arrival
as_arrival d = record { slot = d.slot; cell = d.queued.cell }

-- the departures are these arrivals, each from the one output
pub record AreInSlot (came : List Arrival) (sent : List Departure) : Type 0 where
  pub cells : map as_arrival sent ≡ came
  pub output : AllByRecursion (λ d. d.output ≡ 0) sent

module _ (ms : List Machine) (slot : ℕ) (ranks : List (List ℕ)) where
  -- the cell that comes, if one does, leaves
  slot_sent : (n : ℕ) (o : Option Cell) (sent : Sent) → AllByRecursion (λ cell. cell.output ≡ 0) (option_to_list o) →
      ideal_slot ms slot (o ∷ replicate n None) (alone ranks) ≡ Ok sent →
      AreInSlot (map (as_come slot) (option_to_list o)) (departures_in slot sent.gone)
      × (sent.after ≡ alone sent.after.ranks)
  unfolding departures_in ideal_slot
  slot_sent n o sent out h =
      search (arith, rules, nobody_left (replicate (suc n) None), none_at, ranked_none, filled_one)

-- ## Slot after slot

module _ (ms : List Machine) (classes inputs : ℕ) (many : suc inputs ≡ most_ports) (came : List Arrival)
    (here : AllByRecursion (IsInRange 1 classes) came) (later : EachPair IsLater came) where
  -- what is still to come from this slot on leaves, each in its slot
  each_in_its_slot : (n s : ℕ) → end_of came ≤ s + n → (ranks : List (List ℕ)) (ran : Ran) →
      ideal_run ms s (arriving_from came s n) (alone ranks) ≡ Ok ran →
      AreInSlot (to_come s came) (departures_of s ran.gone)
  unfolding arriving_from departures_of ideal_run found
  each_in_its_slot zero s end ranks ran h = search (arith, rules, filter_none, all_weaker, lt-leb, before_end came)
  each_in_its_slot (suc n) s end ranks ran h =
      let p = first_slot ms s (arriving_at came s 0 ∷ replicate inputs None) (arriving_from came (s + 1) n)
      (alone ranks) ran (rw (one_comes classes inputs many came s here) at h) in
      let out : AllByRecursion (λ cell. cell.output ≡ 0) (found came s 0) =
      search (arith, rules, all_found, all_weaker (IsInRange 1 classes)) in
      let is = slot_sent ms s ranks inputs (arriving_at came s 0) p.sent out p.ran_slot in
      let rest = each_in_its_slot n (s + 1) (omega arith) p.sent.after.ranks p.second (rw is.1 at p.ran_second) in
      grind (arith, common_steps, next_comes, map-append, all_both (λ (d : Departure). d.output ≡ 0), p.both)

-- ## Departures are arrivals

-- no output has a limit
pub none_limited : NoLimits (None ∷ [])
none_limited j = grind (arith, common_steps)

pub sent_in_slot : (t : Tables) (came : List Arrival) (sent : List Departure) → ports_of t.setup ≡ 1 →
    NoLimits t.limits → IsTraffic (ports_of t.setup) (classes_of t.setup) came → ideal_departures t came ≡ Ok sent →
    AreInSlot came sent
unfolding ideal_departures ran_ideal enough
sent_in_slot t came sent one none traffic h =
    let same = same_sent (machines_of t.setup) (ports_of t.setup) (openings_of t.setup) came in
    let before = run_as_before t.limits (machines_of t.setup) (ports_of t.setup) (openings_of t.setup) came none in
    let each = each_in_its_slot (machines_of t.setup) (classes_of t.setup) 63 refl came (rw one at traffic.in_range)
    (each_pair IsLater came traffic.one_by_one) (enough came) 0 (omega arith) (openings_of t.setup) in
    search (arith, rules, same, before, each, all_slots, filter_all, all_weaker, le-leb, before_end came)

-- ## Every packet leaves, once and in its place: with its last cell, which alone is marked, in its slot

abbrev is_last : Arrival → Bool
is_last a = a.cell.last

module _ (t : Tables) (captures : List (List Captured)) where
  -- the packet of an arriving cell, with the stamp of its slot
  abbrev with_slot : Arrival → OutPacket
  with_slot a =
      let p = packet_at captures a.cell.id.input a.cell.id.packet in
      record { stamp = t0_of captures + a.slot * t.slot_ns; original = p.original; body = p.body }

  outs : (sent : List Departure) → AllByRecursion (λ d. d.output ≡ 0) sent →
      map (leaving t captures) (filter (ends_packet_at 0) sent) ≡ map with_slot (filter is_last (map as_arrival sent))
  outs [] all = refl
  outs (d ∷ sent) all = search (arith, rules, eq-eqb, as_arrival, outs sent all.1)

  abbrev arrival_of : ℕ → ℕ → Arrival
  arrival_of k i = record { slot = start t captures 0 k + i; cell = cell_of t captures 0 k i }

  -- of a packet's arrivals the last one alone is marked
  lasts_of : (k : ℕ) →
      filter is_last (arrivals_of t captures 0 k) ≡ arrival_of k (cells t captures 0 k - 1) ∷ []
  unfolding cell_of cells
  lasts_of k =
      let n = cells t captures 0 k in
      let some = cells_above (length (packet_at captures 0 k).body) t.cell_bytes in
      let marked : (i : ℕ) → (arrival_of k i).cell.last ≡ (i == n - 1) =
      search (arith, rules, cases_eq, eq-eqb, ne_eqb) in
      simp (filter_images, filter_agree _ _ marked, one_is (n - 1) 0 n (omega arith) (omega arith))

module _ (t : Tables) (packets : List Captured) where
  abbrev one : List (List Captured)
  one = packets ∷ []

  as_passed : (n a : ℕ) →
      map (with_slot t one) (filter is_last (flat_map (arrivals_of t one 0) (range_with_len a n)))
      ≡ map (as_it_leaves t packets) (range_with_len a n)
  unfolding cell_of
  as_passed zero a = refl
  as_passed (suc n) a = grind (arith, common_steps, filter-append, flat_map, lasts_of, as_passed n (a + 1))

  pub all_leave_is : (sent : List Departure) → AreTables t → ports_of t.setup ≡ 1 → NoLimits t.limits →
      ideal_departures t (arrivals t one) ≡ Ok sent → packets_out t one sent 0 ≡ all_leave t packets
  unfolding packets_out arrivals arrivals_at
  all_leave_is sent are single none h =
      let in_slot = sent_in_slot t (arrivals t one) sent single none (traffic_is t one are (sym single)) h in
      grind (arith, common_steps, outs, in_slot.output, in_slot.cells, append-nil, as_passed)
