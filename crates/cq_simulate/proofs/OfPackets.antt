-- A setup's switch can run over what arrives: the machine of each discipline keeps the laws of machines and begins in a
-- state of its size, and the arrivals rise by input. What arrives at an input are its packets, one after another, each
-- from its first cell to its last. Cell 0 of a packet is its first cell and no other is, and the next packet has the
-- next number. At what is no input nothing arrives.
use Rattle.cq_simulate.proofs.Terms.{get_or_past, common_steps, rules, cond, filter, filter-append, Bool, ◌≡◌, ℕ, zero, suc, ◌+◌, ◌<◌, ◌≤◌, List, [], ◌∷◌, ◌++◌, length, map, refl, arith, flat_map, range_with_len, cases_lt, ne_eqb, Arrival, arriving, traffic_of, Cell, cells_above, at_input, traffic_is, arrivals, arrivals_at, arrivals_of, cell_of, cells, IsTraffic, come_in_order, AreOfPackets, cells_at, Captured, AreTables, ports_of, Tables, arrivals_for, map-append, true, flat_map-append, ◌&&◌, ◌==◌, Departure, came_in_flow, is_from, packet_at, packets_of, route, LeftInOrder, LeftInPackets, of_packet, filter_none, all_weaker, filter_both, filter_agree, cases_eq, min, get_or, slice_get_within, slice_index_or, AllPairs, get_or-map, length-map, length-replicate, get_or_from_slice_get, Setup, IsLater, IsRunnable, RiseByInput, KeepsLaws, machine_at, first_come, IsSetup, classes_of, machine_of, machines_of, openings_of, Kind, FirstCome, sum_by, AllByRecursion, eq-eqb, sum_by-cons, Has, inl, kept_has, not, length-filter_both, ◌^◌, Result, Ok, sym, ◌∙◌, max, and_from, end_of, TagFault, start, piece_begins, all_flat, NoLimits, slots_of, leaves_in_flow, departures_of, departures_limited, LimitedRan, flows_leave_in_packets, limited_same_sent, run_as_before, slots_as_before, HaveLeftOf, LeaveInOrder, LeaveWhole, IsCaptured, ideal_departures, ran_ideal, slots_ran, and_parts, eqb-true, all_of_has, has_cases, has_image, has_kept, image_has, came_more, few_by, length_packet, row_of, rows_are, length-append, length-map-range_with_len, last_departs, limited_slots, all_made}
use Rattle.std.proofs.lemmas.Simd.{map-map}
use Rattle.cq_cells.specs.Traffic.{IsInRange, IsRecorded}

-- First, how many of a list pass a test. What passes one test and then another passes both; of what is of some kinds,
-- what is of this kind is there where the kind is one of them; and of numbers in a row one alone is this one. Where
-- each item is of a kind in a row, those of each kind are together the whole list.

-- how many pass
abbrev pub tally : {X : Type 0} → (X → Bool) → List X → ℕ
tally p xs = length (filter p xs)

-- ## Filters

module _ {X : Type 0} where
  -- one test and then another, in either order
  pub tests_turned : (p q : X → Bool) (xs : List X) → filter (λ x. p x && q x) xs ≡ filter p (filter q xs)
  tests_turned p q xs = grind (arith, common_steps, filter_both p q, filter_agree (λ x. q x && p x) (λ x. p x && q x))

  pub filter_same : (p q : X → Bool) (xs : List X) → AllByRecursion (λ x. p x ≡ q x) xs → filter p xs ≡ filter q xs
  filter_same p q [] same = refl
  filter_same p q (x ∷ xs) same = grind (arith, common_steps, filter_same p q xs same.1)

  -- of some kinds, what is of this kind: it is there where the kind is one of these
  pub of_kind : (kind : X → ℕ) (k : ℕ) (taken : ℕ → Bool) (xs : List X) →
      filter (λ x. kind x == k) (filter (λ x. taken (kind x)) xs)
      ≡ cond (taken k) (filter (λ x. kind x == k) xs) []
  of_kind kind k taken [] = grind (arith, common_steps)
  of_kind kind k taken (x ∷ xs) = grind (arith, common_steps, cases_eq, ne_eqb, of_kind kind k taken xs)

pub filter_images : {X Y : Type 0} (p : X → Bool) (f : Y → X) (ys : List Y) →
    filter p (map f ys) ≡ map f (filter (λ y. p (f y)) ys)
filter_images p f [] = refl
filter_images p f (y ∷ ys) = grind (arith, common_steps, filter_images p f ys)

-- ## Numbers in a row

-- one number alone is this one
none_is : (k a n : ℕ) → k < a → filter (λ i. i == k) (range_with_len a n) ≡ []
none_is k a zero past = refl
none_is k a (suc n) past = grind (arith, common_steps, ne_eqb, none_is k (a + 1) n)

pub one_is : (k a n : ℕ) → a ≤ k → k < a + n → filter (λ i. i == k) (range_with_len a n) ≡ k ∷ []
one_is k a zero from to = absurd (omega arith)
one_is k a (suc n) from to = grind (arith, common_steps, cases_eq, eq-eqb, ne_eqb, none_is, one_is k (a + 1) n)

-- ## Sums

-- items of kinds in a row are as many as there are of each kind
pub kinds_summed : {X : Type 0} (kind : X → ℕ) (f : ℕ → ℕ) (a n : ℕ) (xs : List X) →
    ((x : X) → Has xs x → (a ≤ kind x) × (kind x < a + n)) →
    ((k : ℕ) → a ≤ k → k < a + n → tally (λ x. kind x == k) xs ≡ f k) → length xs ≡ sum_by f (range_with_len a n)
kinds_summed kind f a zero [] within each = refl
kinds_summed kind f a zero (x ∷ xs) within each = absurd (omega (arith, within x (inl refl)))
kinds_summed {X} kind f a (suc n) xs within each =
    let on = kinds_summed kind f (a + 1) n (filter (λ x. not (kind x == a)) xs) in
    grind (arith, common_steps, on, sum_by-cons, length-filter_both, each, kept_has, within, filter_both, filter_agree)

-- ## The machines of a setup

module _ (setup : Setup) (j : ℕ) (inside : j < length setup.kinds) where
  abbrev pub kind : Kind
  kind = get_or setup.kinds j FirstCome

  pub machine_is : machine_at (machines_of setup) j ≡ machine_of kind setup.classes
  machine_is = get_or-map (λ (k : Kind). machine_of k setup.classes) setup.kinds j FirstCome (first_come []) inside

  pub keeps_laws : KeepsLaws (machine_at (machines_of setup) j)
  keeps_laws = grind (arith, common_steps, machine_is)

  pub right_size : length (slice_index_or (openings_of setup) j []) ≡ (machine_at (machines_of setup) j).size
  right_size = search (arith, rules, machine_is, length-replicate, get_or-map)

  pub right_classes : (machine_at (machines_of setup) j).classes ≡ length setup.classes
  right_classes = search (arith, rules, machine_is)

pub later_rise : (came : List Arrival) → AllPairs IsLater came → RiseByInput came
later_rise came later s t a b at_s at_t less same = search (rules, later s t, slice_get_within, get_or_from_slice_get)

pub runnable : (setup : Setup) (came : List Arrival) → IsSetup setup →
    IsTraffic (ports_of setup) (classes_of setup) came →
    IsRunnable (machines_of setup) (ports_of setup) (openings_of setup) came
runnable setup came is traffic =
    grind (arith, common_steps, keeps_laws, length-map, right_size, all_weaker, right_classes, later_rise)

-- ## The packets of an input

-- where all pass a test or none does
all_or_none : {X : Type 0} (p : X → Bool) (f : ℕ → X) (b : Bool) → ((m : ℕ) → p (f m) ≡ b) → (a n : ℕ) →
    filter p (map f (range_with_len a n)) ≡ cond b (map f (range_with_len a n)) []
all_or_none p f b same a zero = grind (arith, common_steps)
all_or_none p f b same a (suc n) = grind (arith, common_steps, all_or_none p f b same (a + 1) n)

module _ (t : Tables) (captures : List (List Captured)) (input : ℕ) where
  -- the cells of a packet from one on, and then what is of packets behind it
  others : (k a n : ℕ) (rest : List Cell) → 0 < a + n → AreOfPackets (k + 1) rest →
      AreOfPackets (min 1 a + k) (map (cell_of t captures input k) (range_with_len a n) ++ rest)
  unfolding cell_of
  others k a zero rest some of = search (arith, rules)
  others k a (suc n) rest some of = grind (arith, common_steps, ne_eqb, others k (a + 1) n rest)

  -- all cells of a packet
  abbrev pub packet_cells : ℕ → List Cell
  packet_cells k = map (cell_of t captures input k) (range_with_len 0 (cells t captures input k))

  packets : (k n : ℕ) → AreOfPackets k (flat_map packet_cells (range_with_len k n))
  unfolding cells
  packets k zero = tt
  packets k (suc n) = grind (arith, common_steps, others k 0, cells_above, packets (k + 1) n)

  -- some packets, as they arrive
  pub line_cells : (ks : List ℕ) →
      map (λ (x : Arrival). x.cell) (flat_map (arrivals_of t captures input) ks) ≡ flat_map packet_cells ks
  line_cells [] = refl
  line_cells (k ∷ ks) = simp (map-append, map-map, line_cells ks)

  -- where cells pass a test by their packet
  pub by_packet : (p : Cell → Bool) (g : ℕ → Bool) → ((k m : ℕ) → p (cell_of t captures input k m) ≡ g k) →
      (ks : List ℕ) → filter p (flat_map packet_cells ks) ≡ flat_map packet_cells (filter g ks)
  by_packet p g same [] = refl
  by_packet p g same (k ∷ ks) =
      search (rules, filter-append, all_or_none p (cell_of t captures input k) (g k), by_packet p g same ks)

  at_line : AreOfPackets 0 (map (λ (x : Arrival). x.cell) (arrivals_at t captures input))
  unfolding arrivals_at
  at_line = grind (arith, common_steps, line_cells, packets)

-- ## What is no input

module _ (ports classes : ℕ) (came : List Arrival) (traffic : IsTraffic ports classes came) (i : ℕ)
    (le : ports ≤ i) where
  pub none_from : (a n : ℕ) → cells_at i (map (arriving came) (range_with_len a n)) ≡ []
  none_from a zero = refl
  none_from a (suc n) = grind (arith, common_steps, arrivals_for ports classes came a traffic, none_from (a + 1) n)

  pub none_at : filter (is_from i) came ≡ []
  none_at = search (rules, traffic, filter_none, all_weaker (IsInRange ports classes), ne_eqb)

pub packets_come : (t : Tables) (captures : List (List Captured)) (input : ℕ) → AreTables t →
    length captures ≡ ports_of t.setup → AreOfPackets 0 (cells_at input (traffic_of (arrivals t captures)))
unfolding traffic_of
packets_come t captures input tables as_many =
    search (rules, later_rise, traffic_is, come_in_order, at_input, at_line, none_from, cases_lt)

-- What arrives of a flow are the cells of its packets, one packet after another. So where some packets are taken of it,
-- with all their cells, what is taken are the cells of a list of packets. The numbers of the packets rise: those that
-- equal one of them are that one alone.

-- ## Numbers that rise

each_alone : (p q : ℕ → Bool) (a n b m : ℕ) → a ≤ b → b + m ≤ a + n →
    flat_map (λ k. filter (λ g. g == k) (filter p (range_with_len a n))) (filter q (filter p (range_with_len b m)))
    ≡ filter q (filter p (range_with_len b m))
each_alone p q a n b zero from to = refl
each_alone p q a n b (suc m) from to =
    let own = of_kind (λ (k : ℕ). k) b p (range_with_len a n) in
    grind (arith, common_steps, one_is b a n, each_alone p q a n (b + 1) m)

-- ## The packets of a flow

module _ (t : Tables) (captures : List (List Captured)) (input : ℕ) where
  -- the packets of the input that are for the output and of the class
  abbrev pub goes_in : ℕ → ℕ → ℕ → Bool
  goes_in c j k =
      let went = route t input (packet_at captures input k).body in went.0 == j && went.1 == c

  abbrev pub packets_in : ℕ → ℕ → List ℕ
  packets_in c j = filter (goes_in c j) (range_with_len 0 (length (packets_of captures input)))

  -- of the cells of some packets those of others
  pub parts_of : (gs ks : List ℕ) → flat_map (of_packet (flat_map (packet_cells t captures input) gs)) ks
      ≡ flat_map (packet_cells t captures input) (flat_map (λ k. filter (λ g. g == k) gs) ks)
  unfolding cell_of
  parts_of gs [] = refl
  parts_of gs (k ∷ ks) = grind (arith, common_steps, by_packet, flat_map-append, parts_of gs ks)

  -- of the cells that come to the input those of a flow
  abbrev in_flow : ℕ → ℕ → Cell → Bool
  in_flow c j cell = cell.output == j && cell.class == c

  pub flow_in_line : (c j : ℕ) (came : List Arrival) → came_in_flow input c j came
      ≡ filter (in_flow c j) (map (λ (a : Arrival). a.cell) (filter (is_from input) came))
  flow_in_line c j came = search (rules, filter_images, filter_both, filter_agree)

  -- what comes to the input, and nothing to what is none
  module _ (are : AreTables t) (many : length captures ≡ ports_of t.setup) where
    comes : filter (is_from input) (arrivals t captures) ≡ arrivals_at t captures input
    unfolding arrivals_at
    comes = grind (arith, common_steps, at_input, none_at, traffic_is, get_or_past, cases_lt)

    pub line_packets : AreOfPackets 0 (map (λ (x : Arrival). x.cell) (filter (is_from input) (arrivals t captures)))
    line_packets = rw comes (at_line t captures input)

    pub flow_is : (c j : ℕ) → came_in_flow input c j (arrivals t captures)
        ≡ flat_map (packet_cells t captures input) (packets_in c j)
    unfolding arrivals_at cell_of
    flow_is c j = grind (arith, common_steps, flow_in_line, comes, line_cells, by_packet)

    -- so packets that are taken from those that come are a list of packets
    pub as_packets : (sent : List Departure) → LeftInOrder (arrivals t captures) input sent →
        LeftInPackets (arrivals t captures) input sent
    unfolding cell_of
    as_packets sent some = record {
      packets = λ c j. filter some.is_taken (packets_in c j);
      left = λ c j.
          let n = length (packets_of captures input) in
          let kept = by_packet t captures input (λ cell. some.is_taken cell.id.packet) some.is_taken (λ k m. refl) in
          search (arith, rules, some.left, flow_is, parts_of, kept, each_alone (goes_in c j) some.is_taken 0 n 0 n);
    }

-- Each cell that departs has arrived. Of each input and class the cells of the packets that are taken in leave an
-- output as they came. So what holds of all cells that arrive holds of each that departs: it is of a packet of its
-- input's capture.

-- ## What departs has come

ran_ok : (P : List Departure → Type 0) (x : Result LimitedRan TagFault) (sent : List Departure) →
    departures_limited x ≡ Ok sent → ((ran : LimitedRan) → x ≡ Ok ran → P (departures_of 0 ran.gone)) → P sent
ran_ok P fault sent h f = grind (arith, common_steps)

-- what the ideal switch sends leaves in the order in which it came
pub left_in_order : (t : Tables) (captures : List (List Captured)) (sent : List Departure) → AreTables t →
    length captures ≡ ports_of t.setup → ideal_departures t (arrivals t captures) ≡ Ok sent →
    LeaveInOrder (arrivals t captures) sent
unfolding ideal_departures ran_ideal
left_in_order t captures sent are many h i =
    let can = runnable t.setup (arrivals t captures) are.setup (traffic_is t captures are many) in
    ran_ok (LeftInOrder (arrivals t captures) i) _ sent (search (arith, rules, limited_same_sent))
    (λ ran is. search (arith, rules, flows_leave_in_packets t.limits _ _ _ _ ran can is i, packets_come))

-- and so in whole packets
pub left_in_packets : (t : Tables) (captures : List (List Captured)) (sent : List Departure) → AreTables t →
    length captures ≡ ports_of t.setup → ideal_departures t (arrivals t captures) ≡ Ok sent →
    LeaveWhole (arrivals t captures) sent
left_in_packets t captures sent are many h i = grind (arith, common_steps, as_packets, left_in_order)

-- a cell that departs came in its flow
pub record CameAs (came : List Arrival) (d : Departure) : Type 0 where
  pub arrival : Arrival
  pub has : Has came arrival
  pub own : arrival.cell ≡ d.queued.cell
  pub output : arrival.cell.output ≡ d.output

-- what a flow gives up of some packets is of the flow
of_flow : (cells : List Cell) (ks : List ℕ) (x : Cell) → Has (flat_map (of_packet cells) ks) x → Has cells x
of_flow cells [] x has = absurd has
of_flow cells (k ∷ ks) x has = grind (arith, common_steps, has_cases, kept_has, of_flow cells ks x)

pub came_as : (came : List Arrival) (sent : List Departure) → LeaveWhole came sent → (d : Departure) → Has sent d →
    CameAs came d
came_as came sent whole d has =
    let leaves = leaves_in_flow d.queued.cell.id.input d.queued.cell.class d.output in
    let own : leaves d ≡ true = grind (arith, common_steps, and_from, d.output, eq-eqb) in
    let left = has_image (λ (x : Departure). x.queued.cell) (filter leaves sent) d (has_kept leaves sent d has own) in
    let l = whole d.queued.cell.id.input in search (arith, rules, of_flow, kept_has, image_has, and_parts, eqb-true)

-- ## The cells of captures

-- what holds of each cell of each packet holds of all that come
pub all_cells : (t : Tables) (captures : List (List Captured)) (P : Arrival → Type 0) →
    ((i k n : ℕ) → i < length captures → k < length (packets_of captures i) → n < cells t captures i k →
    P (record { slot = start t captures i k + n; cell = cell_of t captures i k n })) →
    AllByRecursion P (arrivals t captures)
unfolding arrivals arrivals_at
all_cells t captures P each = all_flat P (arrivals_at t captures) 0 (length captures)
    (search (arith, rules, all_flat P, all_made P))

-- a capture is a file of 2^28 bytes at most, and each packet and each cell of it takes a byte there, so that no
-- packet's number and no cell's place in its packet comes near 2^32
pub small_cells : (t : Tables) (captures : List (List Captured)) → 1 ≤ t.cell_bytes →
    ((i : ℕ) → i < length captures → IsRecorded (packets_of captures i)) →
    AllByRecursion (λ (a : Arrival). (a.cell.id.packet < 2 ^ 32) × (a.cell.id.index < 2 ^ 32)) (arrivals t captures)
unfolding cell_of
small_cells t captures some each = all_cells t captures _ (λ i k n in_captures in_packets below.
    let many = length-map-range_with_len (row_of t captures i) 0 (length (packets_of captures i)) in
    search (arith, rules, rows_are, few_by t captures i (k + 1), came_more, length_packet, length-append))

module _ {t : Tables} {captures : List (List Captured)} {sent : List Departure} {stamp : ℕ}
    (of_run : HaveLeftOf t captures sent stamp) (d : Departure) (has : Has sent d) where
  abbrev came : List Arrival
  came = arrivals t captures

  it : CameAs came d
  it = came_as came sent of_run.whole d has

  pub departed_captured : IsCaptured captures d.queued.cell
  unfolding cell_of cells
  departed_captured =
      search (arith, rules, it, all_cells t captures (λ a. IsCaptured captures a.cell), piece_begins, all_of_has)

  pub departed_class : d.queued.cell.class < length t.setup.classes
  departed_class = search (arith, rules, it, all_of_has, traffic_is)

  -- so each departure is at a port
  pub departed_output : d.output < ports_of t.setup
  departed_output = search (arith, rules, it, all_of_has, traffic_is)

-- ## The last slot

-- the run ends with the last arrival or the last departure
pub slots_are : (t : Tables) (came : List Arrival) (sent : List Departure) → ideal_departures t came ≡ Ok sent →
    slots_ran t came ≡ max (end_of came) (slots_of sent)
unfolding ideal_departures ran_ideal
slots_are t came sent h = grind (arith, common_steps, ran_ok, limited_slots)

-- and where no output has a limit a cell departs in its last slot
pub last_departs_without_limits : (t : Tables) (came : List Arrival) (sent : List Departure) → NoLimits t.limits →
    IsSetup t.setup → IsTraffic (ports_of t.setup) (classes_of t.setup) came → ideal_departures t came ≡ Ok sent →
    slots_ran t came ≡ slots_of sent
unfolding ideal_departures ran_ideal
last_departs_without_limits t came sent none is traffic h =
    ran_ok (λ sent. slots_ran t came ≡ slots_of sent) (ran_ideal t came) sent h (λ ran is_ok.
    slots_as_before t.limits (machines_of t.setup) (ports_of t.setup) (openings_of t.setup) came none
    ∙ sym (last_departs _ _ _ came (runnable t.setup came is traffic).for_switch
    (record { gone = ran.gone; after = ran.after.state }) (cc (run_as_before t.limits _ _ _ came none))))
