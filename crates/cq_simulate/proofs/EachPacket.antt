-- Every packet leaves its output whole or is counted as refused there, once. The fabric sends and refuses what the
-- ideal switch does, and there each packet of an input leaves or is refused: what comes are whole packets, and the
-- cells of one are for one output.
use Rattle.cq_simulate.proofs.Terms.{filter_none, all_in_range, bit, common_steps, rules, append-nil, ◌≡◌, ℕ, ◌<◌, List, length, Ok, ap, arith, ◌+◌, Bool, [], ◌∷◌, map, Option, cond, not, filter, refl, sym, ◌∙◌, ◌-◌, AllByRecursion, range_with_len, All-from_recursion, all_from_has, all_of_has, Arrival, arriving, Departure, traffic_is, at_input, arrivals, packets_of, arrivals_at, cell_of, cells, packet_at, come_in_order, departures_of, whole_limited_run, slots_of_limited_run, LimitedRan, refused_in, packets_refused, AreOfPackets, came_at, AreJudged, LimitedRecord, Captured, AreTables, ports_of, Tables, machines_of, IsFabricRun, departures_in_run, refused_in_run, ideal_departures, ran_ideal, Cell, all_found, all_present, all_weaker, present, judged, Admission, Marked, admission, refused, is_first, arriving_from, IdealState, Machine, ◌&&◌, ◌==◌, length-map, length-filter, sum-map, came_in_flow, ends_packet_at, packets_out, eq-eqb, cells_above, route, each_leaves_or_is_refused, refuses_none_elsewhere, KeepTheirOutput, LeaveOrAreRefused, most_ports, filter_agree, cases_eq, ne_eqb, kept_has, all_both, of_images, all_filter, eqb-true, filter_both, length-append, filter-append, ◌++◌, leaves_in_flow, left_in_flow}
use Rattle.cq_simulate.proofs.OfPackets.{all_cells, came_as, left_in_packets, by_packet, flow_in_line, line_cells, packet_cells, packets_come, runnable, filter_images, filter_same, kinds_summed, of_kind, one_is, tally, tests_turned}
use Rattle.cq_simulate.proofs.FabricLaws.{slot_by_slot}
use Rattle.cq_simulate.specs.EachPacket.{EachPacketOnce, number_for, number_from, output_of, times_left, times_refused}

-- Each packet leaves its output or is refused there, once, and so are all of them together. Where a packet is one of
-- those that are taken in at its input its last cell leaves in its flow, and where it is not its first cell is one of
-- those that were refused. And each cell that left or was refused is of a packet that came.

-- What comes of one packet. Its cells are on its route, so all of them are for one output and of one class; they come
-- at its input, and one of them is its first and one its last. So of what comes for the output to which it goes one
-- cell begins the packet and one ends it, and none does for another.

-- the class of packet k of an input
abbrev pub class_of : Tables → List (List Captured) → ℕ → ℕ → ℕ
class_of t captures input k = (route t input (packet_at captures input k).body).1

-- the cell is of a packet of its input's capture, and on that packet's route
pub record IsOfPacket (t : Tables) (captures : List (List Captured)) (cell : Cell) : Type 0 where
  pub input : cell.id.input < length captures
  pub packet : cell.id.packet < length (packets_of captures cell.id.input)
  pub output : cell.output ≡ output_of t captures cell.id.input cell.id.packet
  pub class : cell.class ≡ class_of t captures cell.id.input cell.id.packet

pub all_of_packets : (t : Tables) (captures : List (List Captured)) →
    AllByRecursion (λ a. IsOfPacket t captures a.cell) (arrivals t captures)
unfolding cell_of
all_of_packets t captures = all_cells t captures (λ a. IsOfPacket t captures a.cell) (search (arith, rules))

-- ## One packet, then all

module _ (t : Tables) (captures : List (List Captured)) (sent : List Departure) (refused : List Cell)
    (parted : (input : ℕ) → input < length captures → LeaveOrAreRefused (arrivals t captures) sent refused input)
    (left : AllByRecursion (λ d. IsOfPacket t captures d.queued.cell) sent)
    (lost : AllByRecursion (IsOfPacket t captures) refused) where
  module _ (input k j : ℕ) (in_captures : input < length captures)
      (in_packets : k < length (packets_of captures input)) where
    abbrev its : List Cell
    its = packet_cells t captures input k

    abbrev class : ℕ
    class = class_of t captures input k

    -- whether it goes to this output
    abbrev goes : Bool
    goes = output_of t captures input k == j

    abbrev taken : ℕ → Bool
    taken = (parted input in_captures).is_taken

    abbrev of_input : Cell → Bool
    of_input cell = cell.id.input == input

    abbrev own : Cell → Bool
    own cell = cell.id.packet == k

    -- the tests of a cell of its flow, and of one that begins it at the output
    abbrev in_flow : Cell → Bool
    in_flow cell = cell.output == j && cell.class == class

    abbrev begins : Cell → Bool
    begins cell = cell.output == j && is_first cell

    -- of what comes to the input its cells are those of its number, and of its flow those too
    in_line : filter own (came_at input (arrivals t captures)) ≡ its
    unfolding arrivals_at cell_of
    in_line = search (arith, rules, append-nil, line_cells, at_input, by_packet t captures input own, one_is k 0)

    in_its_flow : filter own (came_in_flow input class j (arrivals t captures)) ≡ filter in_flow its
    in_its_flow = search (arith, rules, flow_in_line, tests_turned own in_flow, filter_both in_flow own, in_line)

    -- of its cells for an output the one at this place: there is one, if the packet goes there
    one_cell : (p : Cell → Bool) (place : ℕ) → place < cells t captures input k →
        ((i : ℕ) → p (cell_of t captures input k i) ≡ (goes && i == place)) → tally p its ≡ bit goes
    one_cell p place within same =
        let one = one_is place 0 (cells t captures input k) (omega arith) (omega arith) in
        rw (filter_images, length-map, filter_agree _ _ same) (search (arith, rules, one, filter_none, all_from_has))

    last_one : tally (λ cell. in_flow cell && cell.last) its ≡ bit goes
    unfolding cell_of cells
    last_one =
        search (arith, rules, cells_above, one_cell (λ cell. in_flow cell && cell.last), cases_eq, eq-eqb, ne_eqb)

    first_one : tally begins its ≡ bit goes
    unfolding cell_of cells
    first_one = one_cell begins 0 (cells_above (length (packet_at captures input k).body) t.cell_bytes) (λ i. refl)

    -- in the flow of its class it is the only packet of its number
    flow_test : (d : Departure) → IsOfPacket t captures d.queued.cell →
        (ends_packet_at j d && (of_input d.queued.cell && own d.queued.cell))
        ≡ (leaves_in_flow input class j d && (own d.queued.cell && d.queued.cell.last))
    flow_test d of = grind (arith, common_steps)

    leaves : times_left input k j sent ≡ cond (taken k) (bit goes) 0
    leaves =
        let p = parted input in_captures in
        let gone = left_in_flow input class j sent in
        let line = came_in_flow input class j (arrivals t captures) in
        let its_own = of_kind (λ (cell : Cell). cell.id.packet) k taken line in
        let own_gone : filter own gone ≡ cond (taken k) (filter in_flow its) [] = cc (p.left class j, in_its_flow) in
        let same = filter_same _ _ sent (all_weaker _ _ flow_test sent left) in
        let counted : tally (λ cell. own cell && cell.last) gone ≡ times_left input k j sent =
        simp (filter_images, filter_both, length-map) (ap length (sym same)) in
        grind (arith, common_steps, last_one, filter_both (λ (cell : Cell). cell.last))

    is_refused : times_refused input k j refused ≡ cond (not (taken k)) (bit goes) 0
    is_refused =
        let line = came_at input (arrivals t captures) in
        let its_own = of_kind (λ (cell : Cell). cell.id.packet) k (λ n. not (taken n)) line in
        let turned = tests_turned begins (λ (cell : Cell). of_input cell && own cell) refused in
        grind (arith, common_steps, (parted input in_captures).others, in_line, first_one, filter_both own)

    pub each_once : times_left input k j sent + times_refused input k j refused ≡ bit goes
    each_once = search (arith, rules, leaves, is_refused, bit)

  module _ (j : ℕ) where
    -- the cells with which a packet leaves the output, or is refused there
    abbrev ends_or_begins : List Cell
    ends_or_begins = map (λ (d : Departure). d.queued.cell) (filter (ends_packet_at j) sent)
        ++ filter (λ cell. cell.output == j && is_first cell) refused

    all_of : AllByRecursion (IsOfPacket t captures) ends_or_begins
    all_of = search (rules, all_both, of_images, all_filter)

    from_input : (input : ℕ) → input < length captures →
        tally (λ cell. cell.id.input == input) ends_or_begins ≡ number_from t captures j input
    from_input input inside =
        let many = length (packets_of captures input) in
        let goes : ℕ → Bool = λ k. output_of t captures input k == j in
        let own = filter (λ (cell : Cell). cell.id.input == input) ends_or_begins in
        kinds_summed (λ (cell : Cell). cell.id.packet) (λ k. bit (goes k)) 0 many own
        (search (arith, rules, kept_has, all_of, all_of_has, eqb-true)) (λ k _ below. rw filter_both
        (simp (filter-append, filter_images, filter_both, length-append, length-map)
        (each_once input k j inside (omega arith)))) ∙ sym (length-filter goes (range_with_len 0 many))

    pub all_once : length (packets_out t captures sent j) + packets_refused j refused ≡ number_for t captures j
    unfolding packets_out packets_refused
    all_once =
        let all = kinds_summed (λ (cell : Cell). cell.id.input) (number_from t captures j) 0 (length captures)
        ends_or_begins (search (arith, rules, all_of, all_of_has)) (λ input _ below. from_input input (omega arith)) in
        grind (arith, common_steps, length-append, length-map, sum-map)

-- What is refused has come: slot by slot the refused cells are some of those that arrive, and these are some of the
-- arrivals. So what holds of each cell that comes holds of each that is refused.

module _ (P : Cell → Type 0) where
  all_refused : (marks : List Bool) (cells : List (Option Cell)) → AllByRecursion P (present cells) →
      AllByRecursion P (refused marks cells)
  all_refused [] cells all = tt
  all_refused (mark ∷ marks) cells all = grind (arith, common_steps, all_refused marks)

  pub all_judged : (limits : List (Option ℕ)) (marks : List Bool) (traffic : List (List (Option Cell)))
      (admissions : List Admission) → AreJudged limits marks traffic admissions →
      AllByRecursion (λ cells. AllByRecursion P (present cells)) traffic → AllByRecursion P (refused_in admissions)
  unfolding admission
  all_judged limits marks (cells ∷ traffic) (a ∷ admissions) judged all =
      grind (arith, common_steps, all_refused, all_judged limits a.marks traffic admissions judged.1 all.1)
  all_judged limits marks traffic admissions judged all = grind (arith, common_steps)

  pub all_arriving : (came : List Arrival) → AllByRecursion (λ a. P a.cell) came → (t : ℕ) →
      AllByRecursion P (present (arriving came t))
  unfolding arriving
  all_arriving came all t = search (rules, all_present, all_found, all_weaker)

  pub refused_came : (limits : List (Option ℕ)) (ms : List Machine) (came : List Arrival) (old : Marked IdealState)
      (ran : LimitedRan) → whole_limited_run limits ms came old ≡ Ok ran → AllByRecursion (λ a. P a.cell) came →
      AllByRecursion P (refused_in ran.admissions)
  unfolding whole_limited_run arriving_from
  refused_came limits ms came old ran is all =
      let n = slots_of_limited_run limits ms came old in
      all_judged limits old.marks _ ran.admissions (judged limits ms 0 _ old ran is)
      (all_in_range (λ cells. AllByRecursion P (present cells)) came 0 n (all_arriving came all))

module _ (t : Tables) (captures : List (List Captured)) (tables : AreTables t)
    (many : length captures ≡ ports_of t.setup) where
  abbrev came : List Arrival
  came = arrivals t captures

  -- each cell is for the output of its packet
  keep_output : KeepTheirOutput came
  keep_output i j d before inside same_input same_packet = search (rules, All-from_recursion, all_of_packets)

  module _ (ran : LimitedRan) (is : ran_ideal t came ≡ Ok ran) where
    abbrev sent : List Departure
    sent = departures_of 0 ran.gone

    left : AllByRecursion (λ d. IsOfPacket t captures d.queued.cell) sent
    unfolding ideal_departures
    left =
        search (rules, all_from_has, came_as came, left_in_packets t captures, is, all_of_has, all_of_packets t)

    lost : AllByRecursion (IsOfPacket t captures) (refused_in ran.admissions)
    unfolding ran_ideal
    lost = search (rules, refused_came, IsOfPacket, all_of_packets)

    pub packets_of_ran : EachPacketOnce t captures sent (refused_in ran.admissions)
    unfolding ran_ideal
    packets_of_ran =
        let runs = runnable t.setup came tables.setup (traffic_is t captures tables many) in
        let packets : (input : ℕ) → input < most_ports → AreOfPackets 0 (came_at input came) =
        search (arith, rules, come_in_order, packets_come t captures) in
        let parted = each_leaves_or_is_refused t.limits (machines_of t.setup) (ports_of t.setup) _ came ran runs is in
        search (arith, rules, each_once, left, lost, all_once, refuses_none_elsewhere, keep_output, parted, packets)

pub each_packet_once : (t : Tables) (captures : List (List Captured)) (rs : List LimitedRecord) → AreTables t →
    length captures ≡ ports_of t.setup → IsFabricRun t (arrivals t captures) rs →
    EachPacketOnce t captures (departures_in_run rs) (refused_in_run rs)
each_packet_once t captures rs tables many is =
    search (arith, rules, traffic_is, packets_of_ran t captures, slot_by_slot t (arrivals t captures) rs)
