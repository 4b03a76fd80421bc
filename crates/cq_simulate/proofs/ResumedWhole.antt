-- The cells that departed in a run that goes on from a sound state are those of whole packets. Of each flow what the
-- state says was sent, and then what waits in it, are the arrivals that it names, in their order. What waits leaves
-- first, as it does from the list of the ideal switch beside it, and then what is admitted of what comes. A packet
-- that the state names is named with all its cells, and goes on as it began.
use Rattle.cq_simulate.proofs.Terms.{IsEarlier, common_steps, rules, map-append, ◌≡◌, ℕ, ◌<◌, Bool, true, false, List, [], ◌∷◌, ◌++◌, length, map, filter, Option, Some, refl, sym, ap, ◌∙◌, arith, ◌+◌, ◌≤◌, not, cond, ◌&&◌, ◌==◌, All, slice_index_or, nat_lt, AllByRecursion, and_from, and_parts, cases_lt, eq-eqb, eqb-true, lt-ltb, ltb-true, cases_eq, cond-false, le-ltb, Arrival, IsBefore, Departure, Queued, IsLater, IsTraffic, comes_in_flow, leaves_in_flow, left_in_flow, is_kind, shown, HasWaited, Stands, line_at, rest_of, Agrees, Fabric, ideal_of, list_of, departure_of, sent_told, firsts_at, is_refused, latest, IsSound, OfOneFlow, IsBelowFloor, HasShape, Switch, arriving_cell, class_of, fabric_told, is_ahead, is_named, key_of, named_in, output_of, queued_in, queued_of, EachPair, each_pair, buffer_is, comes, found_at, in_buffer, in_list, in_order, is_cell_of, its_output, its_slot, list_is, of_traffic, ports_are, queued_differ, queued_named, some_cell, Has, all_from_has, all_of_has, has_cases, has_image, has_kept, has_left, has_right, image_has, kept_has, pair_of_has, IsInRange, Sent, State, NoLater, all_weaker, Machine, machine_at, AreOfPackets, key_laws, all_has, looked_up, pairs_kept, pairs_kept_with, pairs_looked_up, pairs_with, Named, any_has, has_any, any_alike, pairs_mapped, pairs_joined, has_looked_up, same_pairs, filter_none, filter_all, append_assoc, take_all, filter-append, get_or-map-range_with_len, Cell, traffic_is, arrivals, schedule_of, comes_at_input, AreOfClasses, present, flow_came, no_port, is_of_flow, of_flow, is_run_of, comes_from, Marked, arriving_from, IsRunnable, came_in_flow, departures_of, IdealState, LimitedRan, cells_at, agrees_of, empty_together, LimitedRunsAlike, LimitedFabricRun, LimitedRecord, admissions_in, slots_in, gone_in, Captured, IsInputBest, frozen_told, marks_told, taken_of, IsResumed, Kept, switch_of, Taken, GoesOn, goes_on, AreTables, ports_of, Tables, openings_of, LeaveInOrder, LeaveWhole, LeftInOrder, CanBeTakenUp, slots_fit, all_filter, all_in_range, class_in_slot, none_came, flow_on, whole_on, StandAt, stand_in, best_act_alike, most_ports, filter_both, filter_agree, of_images, LineStands, as_first, line_ends, mark_is, is_line, packets_alike, schedule_known, ArePackets, coming, has_limit, has_name, mark_on, Name, le-leb, list_any, inl, IsScheduleOf, None}
use Rattle.std.proofs.lemmas.Simd.{map-map}
use Rattle.cq_ideal.proofs.AtInput.{cells_of}
use Rattle.cq_simulate.proofs.OfPackets.{as_packets, line_packets, none_at, none_from, right_classes, runnable, filter_images, filter_same}
use Rattle.cq_simulate.proofs.TakenUp.{machines_many}

-- ## Packet after packet

-- The arrivals at one input, packet after packet, and a part of them. The number of a packet is no less than those of
-- the packets ahead of it, and the first cell of each is there.

abbrev pub packet : Arrival → ℕ
packet a = a.cell.id.packet

-- the number from which packets begin behind these cells
unfoldable pub next_after : ℕ → List Arrival → ℕ
next_after n [] = n
next_after n (a ∷ line) = next_after (packet a + 1) line

-- both parts are of packets, the second from there on
of_parts : (n : ℕ) (xs ys : List Arrival) → AreOfPackets n (cells_of (xs ++ ys)) →
    AreOfPackets n (cells_of xs) × AreOfPackets (next_after n xs) (cells_of ys)
unfolding next_after
of_parts n [] ys are = (tt, are)
of_parts n (x ∷ xs) ys are = let rest = of_parts (packet x + 1) xs ys are.1 in ((are.0, rest.0), rest.1)

-- no number is below that from which they begin, and each is below that from which the next one begins
within : (m n : ℕ) (xs : List Arrival) → m ≤ n → AreOfPackets n (cells_of xs) →
    (n ≤ next_after n xs) × AllByRecursion (λ a. (m ≤ packet a + 1) × (packet a + 1 ≤ next_after n xs)) xs
unfolding next_after
within m n [] le are = (omega arith, tt)
within m n (x ∷ xs) le are = grind (arith, common_steps, within m (packet x + 1) xs)

-- each of another packet than the one that goes on is of one that begins: its first cell is there
begun : (n : ℕ) (xs : List Arrival) → AreOfPackets n (cells_of xs) → (a : Arrival) → Has xs a →
    (packet a + 1 ≡ n → ⊥) →
    (f : Arrival) × Has xs f × (f.cell.id.index ≡ 0) × (packet f ≡ packet a)
begun n [] are a has other = absurd has
begun n (x ∷ xs) are a has other = search (arith, rules, eqb-true, cases_eq, begun (packet x + 1) xs are.1 a)

-- a walk ends with the mark of its last cell
last_is : (named : Arrival → Bool) (limited : ℕ → Bool) (n : ℕ) (was mark : Bool) (line : List Arrival) →
    mark_on named limited was line ≡ Some mark → (a : Arrival) → Has line a →
    (z : Arrival) × Has line z × (packet z + 1 ≡ next_after n line) × (mark ≡ not (named z))
unfolding next_after
last_is named limited n was mark [] ends a has = absurd has
last_is named limited n was mark (x ∷ []) ends a has = (x, inl refl, refl, grind (arith, common_steps))
last_is named limited n was mark (x ∷ y ∷ line) ends a has =
    let step : mark_on named limited (not (named x)) (y ∷ line) ≡ Some mark = grind (arith, common_steps) in
    let it = last_is named limited (packet x + 1) (not (named x)) mark (y ∷ line) step y (inl refl) in
    search (arith, rules)

-- ## Names that stand for those of a state

-- a cell that nothing looks at
abbrev no_cell : Cell
no_cell =
    record { id = record { input = 0; packet = 0; index = 0 }; output = 0; class = 0; last = false; at = 0; len = 0 }

-- with the key of a name of the state
abbrev pub as_name : Named → Name
as_name c = record { queued = record { cell = no_cell; key = key_of c }; sent = None }

pub has_as_name : (names : List Named) (a : Arrival) → is_named names a ≡ has_name (map as_name names) a
has_as_name [] a = refl
has_as_name (c ∷ names) a = grind (arith, common_steps, has_as_name names a)

-- ## Arrivals that rise by slot

parted_at : (next : ℕ) (line : List Arrival) → EachPair IsEarlier line →
    line ≡ filter (λ a. nat_lt a.slot next) line ++ rest_of next line
parted_at next [] rising = refl
parted_at next (a ∷ line) rising =
    search (rules, lt-ltb, all_weaker, filter_none, filter_all, le-ltb, cases_lt, parted_at next line rising.1)

-- ## Cells of arrivals

-- the arrivals of a flow come to its input
flow_at : (i c j : ℕ) (came : List Arrival) →
    filter (comes_in_flow i c j) came ≡ filter (comes_in_flow i c j) (line_at i came)
flow_at i c j came = search (rules, filter_both, filter_agree)

no_first : (xs ys : List Cell) → xs ++ ys ≡ [] → xs ≡ []
no_first [] ys none = refl
no_first (x ∷ xs) ys none = absurd (let P : ⊥ = cc in P)

-- ## One flow

-- Of each flow the cells that a sound state names, those that were sent and then those that wait, are the arrivals
-- that it names before its next slot, in their order. Both lists rise by the slots in which their cells arrived, and
-- have the same cells: of a flow there arrives one cell in a slot at most.

-- the arrival of a queued cell
abbrev pub as_arrival : Queued → Arrival
as_arrival q = record { slot = q.key.slot; cell = q.cell }

module _ (w : Switch) (s : State) (in_range : IsInRange s) (shape : HasShape w s) (sound : IsSound w s)
    (traffic : IsTraffic (length w.machines) w.classes w.came) where
  abbrev f : Fabric
  f = fabric_told w.came s

  abbrev next : ℕ
  next = s.head.next

  abbrev names : List Named
  names = named_in s

  abbrev named : Arrival → Bool
  named a = is_named names a

  goes : GoesOn w (frozen_told w s)
  goes = goes_on w s in_range shape sound traffic

  agrees : Agrees next f (ideal_of f)
  unfolding frozen_told fabric_told
  agrees = agrees_of next f goes.sound

  -- the arrivals at an input, those before the slot and those from it on: they rise
  module _ (i : ℕ) where
    abbrev line : List Arrival
    line = line_at i w.came

    abbrev before : List Arrival
    before = filter (λ a. nat_lt a.slot next) line

    abbrev behind : List Arrival
    behind = rest_of next line

    rises : EachPair IsEarlier line
    rises = search (arith, rules, pairs_kept_with IsLater IsEarlier, each_pair, traffic.one_by_one, eqb-true)

  module _ (i c j : ℕ) where
    abbrev t : Named → Option Queued
    t n = queued_of w.came n

    abbrev pub there : List Queued
    there = list_of (ideal_of f).lists j

    -- a cell that waits for an output is named, and its name tells it
    pub waits_there : (q : Queued) → Has there q →
        (n : Named) × Has (queued_in s) n × (t n ≡ Some q) × (q.cell.output ≡ j)
    waits_there q has =
        let buffered = in_buffer w s in_range shape sound traffic in
        search (arith, rules, buffered, has_left, has_right, agrees.same, in_list w s in_range shape sound traffic)

    abbrev leaves : Departure → Bool
    leaves d = leaves_in_flow i c j d

    -- the cells of the flow that were sent, and those that wait
    abbrev gone : List Queued
    gone = map (λ (d : Departure). d.queued) (filter leaves (sent_told w.came s))

    abbrev waiting : List Queued
    waiting = filter (is_kind i c) there

    -- a named cell of the flow
    record InFlow (n : Named) (q : Queued) : Type 0 where
      pub is : t n ≡ Some q
      pub output : q.cell.output ≡ j
      pub kind : is_kind i c q ≡ true

    sent_in_flow : (d : Sent) (x : Departure) → departure_of w.came d ≡ Some x → leaves x ≡ true →
        InFlow d.cell x.queued
    sent_in_flow d x is passes = grind (arith, common_steps, and_parts, x.output, is_kind, eqb-true)

    was_sent : (q : Queued) → Has gone q → (d : Sent) × Has s.sent d × InFlow d.cell q
    was_sent q has = grind (arith, common_steps, image_has, kept_has, looked_up, sent_in_flow)

    waits : (q : Queued) → Has waiting q → (n : Named) × Has (queued_in s) n × InFlow n q
    waits q has = search (rules, kept_has, is_kind, waits_there)

    -- what its name is
    name_in_flow : (n : Named) (q : Queued) → InFlow n q →
        (n.input ≡ i) × (output_of w.came n ≡ j) × (class_of w.came n ≡ c)
    name_in_flow n q of = search (arith, rules, of_traffic w s in_range shape sound traffic n q, its_output, eqb-true)

    -- ## They rise

    abbrev Earlier : Queued → Queued → Type 0
    Earlier q r = q.key.slot < r.key.slot

    -- of two departures of the flow
    abbrev EarlierThere : Departure → Departure → Type 0
    EarlierThere x y = leaves x ≡ true → leaves y ≡ true → Earlier x.queued y.queued

    -- of two names of one flow the second arrived later
    abbrev After : Named → Named → Type 0
    After m n = OfOneFlow w.came m n → m.slot < n.slot

    gone_rise : EachPair Earlier gone
    gone_rise =
        let turn = pairs_looked_up (departure_of w.came) (λ (d e : Sent). After d.cell e.cell) EarlierThere in
        let kept = pairs_kept_with EarlierThere (λ (x y : Departure). Earlier x.queued y.queued) leaves in
        search (arith, rules, pairs_mapped, kept, turn, sent_in_flow, name_in_flow, its_slot w s, each_pair)

    -- of two that wait the first arrived first
    abbrev Ahead : Named → Named → Type 0
    Ahead a b = OfOneFlow w.came a b → a.slot < b.slot → is_ahead a b ≡ true

    ahead : (a b : Named) → Has (queued_in s) a → Has (queued_in s) b → Ahead a b
    ahead a b first second =
        search (rules, all_has (λ (m : Named). All (Ahead m) (queued_in s)), all_has (Ahead a), sound.flows.queued)

    one_name : (a b : Named) → Has (queued_in s) a → Has (queued_in s) b → a.slot ≡ b.slot → a.input ≡ b.input → a ≡ b
    one_name a b first second slots inputs = grind (arith, common_steps, pair_of_has, queued_differ)

    waits_earlier : (q r : Queued) → Has waiting q → Has waiting r → IsBefore q r → Earlier q r
    waits_earlier q r first second before =
        let a = waits q first in
        let b = waits r second in
        let slot = its_slot w s in_range shape sound traffic in
        let back : r.key.slot < q.key.slot → IsBefore r q = λ less.
        search (arith, rules, in_order, ahead, name_in_flow, slot) in
        let same : q.key.slot ≡ r.key.slot → q ≡ r = λ slots.
        let inputs = (name_in_flow a.0 q a.2).0 ∙ sym (name_in_flow b.0 r b.2).0 in
        let names = one_name a.0 b.0 a.1 b.1 (omega (arith, slot a.0 q a.2.is, slot b.0 r b.2.is)) inputs in cc in
        grind (arith, common_steps, back, same, cases_lt, key_laws.one_way, key_laws.never_itself)

    waiting_rise : EachPair Earlier waiting
    waiting_rise =
        let rise = pairs_with IsBefore Earlier (λ (q : Queued). Has waiting q) in
        search (arith, rules, rise, waits_earlier, all_from_has, pairs_kept IsBefore, agrees.rising)

    -- what was sent arrived before what waits
    sent_earlier : (q r : Queued) → Has gone q → Has waiting r → Earlier q r
    sent_earlier q r first second =
        let a = was_sent q first in
        let all = all_has (λ (d : Sent). All (After d.cell) (queued_in s)) s.sent a.0 sound.flows.after a.1 in
        search (arith, rules, name_in_flow, its_slot w s, all_has (After a.0.cell) (queued_in s), waits r)

    told_rise : EachPair IsEarlier (map as_arrival (gone ++ waiting))
    told_rise = search (rules, pairs_mapped, IsEarlier, pairs_joined, gone_rise, waiting_rise, sent_earlier)

    -- ## They are the named arrivals

    -- the arrivals of the flow before the slot, of which these are named
    abbrev pub told : List Arrival
    told = filter named (filter (comes_in_flow i c j) (before i))

    abbrev is_name_of : Arrival → Named → Bool
    is_name_of x n = n.slot == x.slot && n.input == x.cell.id.input

    one_of_names : (n : Named) (q : Queued) → Has names n → InFlow n q → Has told (as_arrival q)
    one_of_names n q has of =
        let it = found_at w.came n.slot n.input q.cell (is_cell_of w.came n q of.is).arrives in
        search (arith, rules, its_slot w, and_from, and_parts, is_kind, eq-eqb, any_has, has_kept, lt-ltb, comes w)

    has_told : (x : Arrival) → Has (map as_arrival (gone ++ waiting)) x → Has told x
    has_told x has =
        let sent = λ (q : Queued) (d : Sent) (has : Has s.sent d). one_of_names d.cell q
        (has_right (queued_in s) _ d.cell (has_image (λ (d : Sent). d.cell) s.sent d has)) in
        let named = queued_named w s in_range shape sound traffic in
        search (arith, rules, image_has, has_cases, was_sent, sent, waits, one_of_names, named)

    -- where the cell of a name stands
    among_gone : (n : Named) (q : Queued) → InFlow n q → Has (map (λ (d : Sent). d.cell) s.sent) n → Has gone q
    among_gone n q of has =
        let image = image_has (λ (d : Sent). d.cell) s.sent n has in
        let x : Departure = record { slot = image.0.slot; output = q.cell.output; queued = q } in
        let there = has_looked_up (departure_of w.came) s.sent image.0 x image.1 in
        search (arith, rules, has_image (λ (y : Departure). y.queued), has_kept leaves, and_from, eq-eqb)

    among_listed : (n : Named) (q : Queued) → InFlow n q → Has s.listed n → Has waiting q
    among_listed n q of has =
        let low = of_traffic w s in_range shape sound traffic n q of.is in
        let list = list_is w s in_range shape sound traffic n.input (omega arith) in
        let kept = has_kept (λ (m : Named). m.input == n.input) s.listed n has (eq-eqb n.input n.input refl) in
        let there = has_looked_up t _ n q kept of.is in search (arith, rules, has_kept, is_kind, agrees)

    among_buffered : (n : Named) (q : Queued) → InFlow n q → Has s.buffered n → Has waiting q
    among_buffered n q of has =
        search (rules, of_traffic w s in_range shape sound traffic n q, has_kept, has_looked_up, buffer_is, agrees)

    is_there : (x : Arrival) → Has told x → Has (map as_arrival (gone ++ waiting)) x
    is_there x has =
        let one : Has w.came x × (x.slot < next) × (comes_in_flow i c j x ≡ true) × (named x ≡ true) =
        grind (arith, common_steps, kept_has, line_at, ltb-true) in
        let (n, has_name, same_name) = has_any (is_name_of x) names one.3 in
        let some = some_cell (arriving_cell w.came n) (comes w s in_range shape sound traffic n has_name).1 in
        let rising = each_pair IsLater w.came traffic.one_by_one in
        let same = pair_of_has IsLater w.came (found_at w.came n.slot n.input some.0 some.1).arrival x rising in
        let q : Queued = record { cell = x.cell; key = key_of n } in
        let of : InFlow n q = grind (arith, common_steps, and_parts, eqb-true, is_kind, same) in
        let is = has_image as_arrival (gone ++ waiting) q in
        search (arith, rules, is, has_right, among_listed, among_buffered, has_cases, has_left, among_gone)

    told_rises : EachPair IsEarlier told
    told_rises = grind (arith, common_steps, pairs_kept, IsEarlier, line_at, rises)

    -- what was sent of the flow, and then what waits of it
    pub told_flow : left_in_flow i c j (sent_told w.came s) ++ shown i c there ≡ cells_of told
    told_flow = search (rules, same_pairs, told_rise, told_rises, has_told, is_there, cells_of, map-append, map-map)

    -- ## How they stand

    -- What waits for an output in a sound state stands there as in a run: in the order of the keys, each cell with
    -- the level of its class and a rank below the floor, and each arrived in an earlier slot.

    module _ (inside : j < length w.machines) (classes : (machine_at w.machines j).classes ≡ w.classes) where
      abbrev pub m : Machine
      m = machine_at w.machines j

      has_waited : (q : Queued) → Has there q → HasWaited m (slice_index_or s.ranks j []) s.head.next 0 q
      has_waited q has =
          let (n, own, is, here) = waits_there q has in
          let floor = all_has (IsBelowFloor w s) (queued_in s) n sound.floors own in
          let early = comes w s in_range shape sound traffic n (queued_named w s in_range shape sound traffic n own) in
          search (arith, rules, of_traffic w s in_range shape sound traffic n q, is_cell_of w.came n q is)

      pub stands_there : Stands m (slice_index_or (ideal_of f).ranks j []) s.head.next 0 there
      unfolding fabric_told
      stands_there =
          let rising = pairs_with IsBefore NoLater (Has there) in
          search (rules, agrees, ports_are, Stands, rising, key_laws.one_way, all_from_has, has_waited)

  -- ## A run that goes on

  module _ (ports : ℕ) (openings : List (List ℕ)) (as_many : length w.machines ≡ ports) (few : ports ≤ most_ports)
      (runs : IsRunnable w.machines ports openings w.came)
      (classes : (j : ℕ) → j < ports → (machine_at w.machines j).classes ≡ w.classes)
      (are : ArePackets ports w.came) (packets : (i : ℕ) → AreOfPackets 0 (cells_of (line_at i w.came))) (kept : Kept)
      (resumed : IsResumed w (taken_of w s) kept) where
    many_are : (length f.inputs ≡ ports) × (length f.ranks ≡ ports)
    unfolding frozen_told fabric_told
    many_are = (goes.ports.lists ∙ as_many, goes.ports.ranks ∙ as_many)

    abbrev start : Marked Fabric
    start = record { state = f; marks = marks_told w.came s }

    abbrev beside : Marked IdealState
    beside = record { state = ideal_of f; marks = marks_told w.came s }

    abbrev rs : List LimitedRecord
    rs = resumed.records

    abbrev slots : List (List (Option Cell))
    slots = arriving_from w.came next (length rs)

    fabric_runs : LimitedFabricRun IsInputBest w.limits w.machines next slots start rs resumed.end
    unfolding frozen_told fabric_told
    fabric_runs = rw (take_all (length rs) rs (omega arith)) at resumed.runs.after

    ideal_alike : LimitedRunsAlike w.limits w.machines next slots beside rs resumed.end
    ideal_alike = (best_act_alike w.limits w.machines).run next w.classes slots start resumed.end beside rs
        (record { states = agrees; marks = refl }) (search (arith, rules, many_are, slots_fit, traffic)) fabric_runs

    abbrev ran : LimitedRan
    ran = record { admissions = admissions_in rs; gone = gone_in (slots_in rs); after = ideal_alike.after }

    over : All (λ cells. cells ≡ []) ideal_alike.after.state.lists
    over = (empty_together (next + length slots) _ _ ideal_alike.agrees.states).0 resumed.runs.empty

    stand : AllByRecursion (StandAt 0) slots
    unfolding arriving_from
    stand = stand_in w.came next (length rs)

    of_classes : (j : ℕ) → AllByRecursion (λ cells. AreOfClasses (machine_at w.machines j) j (present cells)) slots
    unfolding arriving_from
    of_classes j = all_in_range (λ cells. AreOfClasses (machine_at w.machines j) j (present cells)) w.came next
        (length rs) (class_in_slot w.machines ports j w.came most_ports refl runs.for_switch)

    -- ## At one input

    -- Which packets of an input a run that goes on from a sound state has taken. Of those that began before the next
    -- slot the state says it, with one answer for all cells that arrived; of the others the run does. Where a packet
    -- goes on over the slot both say the same: it is the last that began, and the mark of the input is up exactly
    -- where the state does not name it.

    module _ (i : ℕ) where
      -- the number from which packets begin from the slot on
      abbrev begin_from : ℕ
      begin_from = next_after 0 (before i)

      abbrev mark : Bool
      mark = is_refused w.came s (latest (firsts_at w.came s i))

      packets_parted : AreOfPackets 0 (cells_of (before i)) × AreOfPackets begin_from (cells_of (behind i))
      packets_parted = of_parts 0 (before i) (behind i) (rw (parted_at next (line i) (rises i)) at (packets i))

      abbrev standing : List Name
      standing = map as_name names

      early : coming i 0 next w.came ≡ before i
      early = search (rules, filter_agree, le-leb)

      stands_by : LineStands w.limits ports next w.came standing are i
      stands_by = as_first w.limits ports next w.came standing are
          ((packets_alike w s standing (has_as_name names)).0 sound.packets) i

      -- all cells of a packet are named, or none
      alike : (a b : Arrival) → Has (before i) a → Has (before i) b → packet a ≡ packet b → named a ≡ named b
      alike a b first second same =
          grind (arith, common_steps, early, stands_by, has_as_name names, begun 0 (before i) packets_parted.0 a)

      -- the walk over them ends with the mark
      ends : i < ports → mark_on named (has_limit w.limits) false (before i) ≡ Some mark
      ends inside =
          let same : has_name standing ≡ is_named (named_in s) = λ k a. sym (has_as_name names a) k in
          let whole = is_line w.limits ports next w.came standing are i inside in
          let is = mark_is w.limits ports next w.came standing are i inside stands_by in
          rw (← early, ← same) (search (arith, rules, line_ends (has_name standing), whole, stands_by, is, same))

      -- those of the last one just where the mark is down
      mark_says : (a : Arrival) → Has (before i) a → packet a + 1 ≡ begin_from → not mark ≡ named a
      mark_says a has last =
          let inside : i < ports = search (arith, rules, kept_has, all_of_has, are.inputs, eqb-true) in
          let it = last_is named (has_limit w.limits) 0 false mark (before i) (ends inside) a has in
          grind (arith, common_steps, alike it.0 a it.1 has)

      -- those that come from the slot on are the late ones
      late_are : cells_at i slots ≡ cells_of (behind i)
      unfolding arriving_from frozen_told fabric_told
      late_are = search (arith, rules, comes_from i, none_at, none_from, traffic, cases_lt i most_ports, resumed)

      late_packets : AreOfPackets begin_from (cells_at i slots)
      late_packets = rw late_are packets_parted.1

      -- what is taken of the packets that come
      abbrev taken : ℕ → Bool
      taken = (whole_on w.limits w.machines next slots beside ran ideal_alike.ran stand over i begin_from
          late_packets).is_taken

      goes_as_marked : (p : ℕ) → p + 1 ≡ begin_from → taken p ≡ not mark
      unfolding next_after
      goes_as_marked p last =
          search (arith, rules, whole_on, over, late_packets, get_or-map-range_with_len, none_at, cases_lt i)

      -- and of all packets: of those that are over before the slot the state says it
      abbrev takes : ℕ → Bool
      takes p = cond (nat_lt (p + 1) begin_from) (list_any named (filter (λ a. packet a == p) (before i))) (taken p)

      taken_before : AllByRecursion (λ a. takes (packet a) ≡ named a) (before i)
      taken_before = all_from_has _ (before i) (λ a has.
          let goes_on = goes_as_marked (packet a) in
          let high = all_of_has _ (before i) a (within 0 0 (before i) (omega arith) packets_parted.0).1 has in
          let own = filter (λ (b : Arrival). packet b == packet a) (before i) in
          let any = any_alike named (named a) own a in
          search (arith, rules, any, kept_has, has_kept, alike, mark_says, lt-ltb, le-ltb, cases_lt, eq-eqb, eqb-true))

      taken_behind : AllByRecursion (λ b. takes (packet b) ≡ taken (packet b)) (behind i)
      taken_behind = search (arith, rules, within begin_from, packets_parted, all_weaker, le-ltb, cond-false)

      abbrev taken_cell : Cell → Bool
      taken_cell cell = taken cell.id.packet

      abbrev takes_cell : Cell → Bool
      takes_cell cell = takes cell.id.packet

      module _ (c j : ℕ) where
        abbrev its_flow : Arrival → Bool
        its_flow = comes_in_flow i c j

        abbrev later : List Cell
        later = cells_of (filter its_flow (behind i))

        early_taken : filter takes_cell (cells_of (filter its_flow (before i))) ≡ cells_of (told i c j)
        early_taken = search (rules, filter_images, filter_same, all_filter, taken_before)

        late_taken : filter takes_cell later ≡ filter taken_cell later
        late_taken = search (rules, filter_same, of_images, all_filter, taken_behind)

        takes_parts : filter takes_cell (came_in_flow i c j w.came) ≡ cells_of (told i c j) ++ filter taken_cell later
        takes_parts =
            search (rules, parted_at next, rises, flow_at, map-append, filter-append, early_taken, late_taken)

        flow_late : flow_came i c j slots ≡ later
        unfolding of_flow
        flow_late = rw (comes_at_input i c j slots stand, late_are) (filter_images (is_of_flow i c j) _ (behind i))

        -- ## What left

        left_is : left_in_flow i c j kept.sent ≡ left_in_flow i c j (sent_told w.came s)
            ++ left_in_flow i c j (departures_of next ran.gone)
        unfolding frozen_told
        left_is = grind (arith, common_steps, filter-append, map-append)

        at_port : j < ports → left_in_flow i c j kept.sent ≡ filter takes_cell (came_in_flow i c j w.came)
        at_port inside =
            let ranks = ap (λ (l : List (List ℕ)). length l) agrees.ranks in
            let flow = flow_on w.limits w.machines next slots beside ran ideal_alike.ran stand over i begin_from
            late_packets c j (runs.machines j inside) (omega (arith, agrees.ports, many_are)) (omega (arith, many_are))
            (stands_there i c j (omega arith) (classes j inside)) (of_classes j) in
            grind (arith, common_steps, left_is, flow, append_assoc, told_flow i c j, flow_late, takes_parts)

        elsewhere : ports ≤ j → left_in_flow i c j kept.sent ≡ filter takes_cell (came_in_flow i c j w.came)
        elsewhere past =
            let none = none_came w.machines ports i c j w.came runs.for_switch past in
            let ideal_runs = is_run_of w.limits w.machines next slots beside ran ideal_alike.ran in
            let none_left = no_port w.machines i c j _ next (ideal_of f) _ ideal_runs in
            grind (arith, common_steps, left_is, takes_parts, told_flow i c j, no_first, none_left, agrees, many_are)

      pub leaves_in_order : LeftInOrder w.came i kept.sent
      leaves_in_order = record { is_taken = takes; left = λ c j. search (arith, rules, at_port, elsewhere, cases_lt) }

pub resumed_in_order : (t : Tables) (captures : List (List Captured)) (from : Taken) (kept : Kept) → AreTables t →
    length captures ≡ ports_of t.setup → CanBeTakenUp (switch_of t (schedule_of t captures)) from →
    IsResumed (switch_of t (schedule_of t captures)) from kept → LeaveInOrder (arrivals t captures) kept.sent
resumed_in_order t captures from kept are many up resumed =
    let come = traffic_is t captures are many in
    let runs = runnable t.setup (arrivals t captures) are.setup come in
    let it = up.comes in
    let of : IsScheduleOf t (schedule_of t captures) = record { captures = captures; ports = many; schedule = refl } in
    leaves_in_order (switch_of t (schedule_of t captures)) up.state it.in_range it.shape it.sound
    (rw (machines_many t) come) (ports_of t.setup) (openings_of t.setup) (machines_many t) (omega arith) runs
    (right_classes t.setup) (rw many at (schedule_known t (schedule_of t captures) are of).packets)
    (λ i. line_packets t captures i are many) kept (rw it.told at resumed)

pub resumed_whole : (t : Tables) (captures : List (List Captured)) (from : Taken) (kept : Kept) → AreTables t →
    length captures ≡ ports_of t.setup → CanBeTakenUp (switch_of t (schedule_of t captures)) from →
    IsResumed (switch_of t (schedule_of t captures)) from kept → LeaveWhole (arrivals t captures) kept.sent
resumed_whole t captures from kept are many up resumed i = search (rules, as_packets, resumed_in_order)
