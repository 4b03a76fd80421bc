-- What each step of the loops over slots asks for, and what is known after it. First the loop of the ideal switch; then
-- one slot of the fabric by its numbers, and what is still to come in some slots; then the loop of the fabric, from any
-- slot on. Before each slot it is known how many are left, and of a run to its end that these are enough.
use Rattle.cq_simulate.proofs.Terms.{common_steps, rules, ◌≡◌, ◌↔◌, ℕ, suc, ◌+◌, ◌-◌, ◌<◌, ◌≤◌, Bool, false, List, [], ◌++◌, length, map, replicate, Option, Result, Ok, Err, refl, sym, ap, arith, zero, None, ◌∷◌, IsTrue, All, slice_index_or, cases_lt, Cell, Departure, Queued, TagFault, no_arrivals, Arrival, arriving, end_of, enough, traffic_of, RoomView, Machine, Marked, nothing_refused, admission, admitted, refused, IdealSwitch, HaveLeft, marked_state, count_for, IdealState, ideal_slot, departures_limited, LimitedSent, limited_run, limited_slot, ideal_admission, with_admission, CanCount, IsReady, waiting, counted, arriving_from, none_waits, nothing_left, all_slots, arrivals_for, for_here, from_here, some_one, come_for, come_for-traffic_of, IsQuiet, come_count, arriving_parts, departures_of, quiet_slots, length-replicate, append-nil, length-append, get_or-replicate, number_of, is_to, counts_fit, zero_fits, present, come_count-traffic_of, none_after, run_fault, each_once, waiting-empty, CanHaveSlot, HasHadSlot, IsSameSwitch, arriving_length, first_slots, departures_append, first_more, LimitedRan, come_from, ◌^◌, true, ◌*◌, sum, slice_index, and_left, leb-false, ne_eqb, arriving_at, Transfer, EngineView, HaveListRoom, IsMadeAs, IsReadyFor, SlotDone, answer_to, its_admission, marked_fabric, AreForPorts, ranking, IsEmptyFabric, Fabric, input, LimitedFabricRun, LimitedRecord, IsLimitedFault, LimitedFabricSlot, IsInputBest, class_count, none_counted, IsReadyOn, NoneCome, StopsWithin, RanTo, WentOn, to_come, arrives_found, one_if, no_more_from, no_more_to, take_all, take-append-le, transfers_of_run, range_with_len, come_count-first, arriving_here, total, total_same, stable_limited_slot, same_limited_slot, only_limited_run, fabric_held, held_for, LimitedAgrees, figures_after, agrees_of, ideal_of, is_from, found, quiet_limited_slots, limited_lists_kept, limited_outputs_kept, all_go_on, departures_one, transfers_one, most_ports, best_act_alike, kept_on, kept_with, slots_fit, run_length, ◌∙◌, kept_both, kept_quiet, fabric_listed, admission_for_ports, Some, mul-le-mul, filter_map, cons_option, length-map, nil_from_length, length-insert, length-map-range_with_len, get_or-map-range_with_len, sum_by-le, arrival_at, is_for, outputs_at, IsFabric, SlotRecord, FabricSlot, proposals_in, transfers_in, orders_of, output_order, Partners, partner_of, spent, proposals, IsMatching, came_from, first_at, Transfers, came_to, list_arrived, OutputsInRange, are_offers, outputs_at_most, has_there, sum_by-cons, Agrees, hold_as_many, empty_together, IsStable, stable_slot, same_slot, arrived, after_sent, get_or_past}
use Rattle.cq_ideal.specs.Ideal.{its_slot}
use Rattle.cq_ideal.specs.IdealSlot.{Sent}
use Rattle.cq_ideal.proofs.Waiting.{Counted}
use Rattle.cq_ideal.specs.Rest.{HasRested as HasRestedIdeal}
use Rattle.cq_ideal.proofs.LimitedEnds.{behind, limited_parts, limited_stays_empty, none_departs}
use Rattle.cq_engine.specs.Engine.{HasGoneOn, ports_of}
use Rattle.cq_engine.specs.Resting.{HasRested}
use Rattle.cq_prefs.specs.Moves.{list_taken, noted, transfers_of}
use Rattle.cq_prefs.specs.Orders.{Orders, ports, outputs_of}

-- The run of the ideal switch, slot by slot. The slots so far are a run, which the slots that are left go on with, and
-- what was sent is what that run sent. Of the cells that come in a slot each is admitted or refused. So the cells that
-- wait and those that are still to come are no more than there is room for, in each list and in all, and what counts
-- the refused ones has room for all that are still to come. And those that wait or come are no more than the slots
-- that are left after the last arrival: in each of these a cell leaves, while one waits. So the slots do not end before
-- the cells. Once no cell is to come and none waits, the slots that are left send nothing and meet no fault.

-- ## What a slot admits

all_once : (marks : List Bool) (cells : List (Option Cell)) →
    length (present (admitted marks cells)) + length (refused marks cells) ≡ length (present cells)
all_once [] cells = omega arith
all_once (mark ∷ marks) cells = grind (arith, common_steps, all_once marks)

-- each cell is admitted or refused, and a slot is one without limits of what is admitted
pub record OfAdmitted (slot : ℕ) (cells : List (Option Cell)) (old : Marked IdealState) (of_slot : LimitedSent) : Type
    0 where
  pub all : length (present of_slot.admission.cells) + length of_slot.admission.refused ≡ length (present cells)
  pub each : (j : ℕ) → count_for j of_slot.admission.cells ≤ count_for j cells
  pub counts : Counted slot of_slot.admission.cells old.state
      (record { gone = of_slot.gone; after = of_slot.after.state })

pub of_admitted : (limits : List (Option ℕ)) (ms : List Machine) (slot : ℕ) (cells : List (Option Cell))
    (old : Marked IdealState) (of_slot : LimitedSent) → limited_slot limits ms slot cells old ≡ Ok of_slot →
    OfAdmitted slot cells old of_slot
unfolding limited_slot admission
of_admitted limits ms slot cells old of_slot is =
    let a = ideal_admission limits cells old in by (ideal_slot ms slot a.cells old.state) refl is where
      by : (x : Result Sent TagFault) → ideal_slot ms slot (ideal_admission limits cells old).cells old.state ≡ x →
          with_admission (ideal_admission limits cells old) x ≡ Ok of_slot → OfAdmitted slot cells old of_slot
      by x ran e =
          let counts = counted ms slot (ideal_admission limits cells old).cells old.state in
          grind (arith, common_steps, all_once, each_once, counts)

-- ## The loop of the ideal switch

-- What is known before a slot, where so many slots are left of a run that could begin: what the slots so far came to,
-- and what was sent in them.
pub record Running (ms : List Machine) (came : List Arrival) (first : IdealSwitch) (first_sent : RoomView Departure)
    (slot n : ℕ) (now : IdealSwitch) (sent : RoomView Departure) : Type 0 where
  pub ready : IsReady ms came first first_sent
  pub left : slot + n ≡ enough came
  pub running : now.stopped ≡ false
  pub next : now.next ≡ slot
  pub same : IsSameSwitch first now
  pub ran : LimitedRan
  pub long : length ran.gone ≡ slot
  pub is : limited_run first.limits ms 0 (first_slots came slot) (marked_state first) ≡ Ok ran
  pub after : ran.after ≡ marked_state now
  pub departed : sent.items ≡ departures_of 0 ran.gone
  pub ports : length now.state.lists ≡ length first.fixed
  pub each : (j : ℕ) → j < length first.fixed →
      length (slice_index_or now.state.lists j []) + come_for j (arriving_from came slot n) ≤ number_of (is_to j) came
  pub spare : waiting now.state.lists + come_count (arriving_from came slot n) + length first.fixed ≤ sent.spare
  pub few : waiting now.state.lists + come_count (arriving_from came slot n) + (end_of came - slot) ≤ n
  pub counts : CanCount (length first.fixed + come_count (arriving_from came slot n)) now.refused

pub enough_are : (came : List Arrival) → enough came ≡ end_of came + length came
unfolding enough
enough_are came = refl

pub running_first : (ms : List Machine) (came : List Arrival) (first : IdealSwitch) (sent : RoomView Departure)
    (n : ℕ) → IsReady ms came first sent → n ≡ enough came → Running ms came first sent 0 n first sent
unfolding limited_run arriving_from departures_of
running_first ms came first sent n ready all_left =
    let all = come_count-traffic_of came in
    let begun : limited_run first.limits ms 0 (first_slots came 0) (marked_state first) ≡ Ok _ = refl in
    let counts = zero_fits (length first.fixed + come_count (arriving_from came 0 n)) first.limits in
    search (arith, rules, all_slots, come_for-traffic_of, enough_are, length-replicate, get_or-replicate, waiting-empty)

pub none_come : (came : List Arrival) (n slot : ℕ) → end_of came ≤ slot → come_count (arriving_from came slot n) ≡ 0
unfolding arriving_from come_count
none_come came zero slot le = refl
none_come came (suc n) slot le = grind (arith, common_steps, none_after, come_count, none_come came n (slot + 1))

module _ {ms : List Machine} {came : List Arrival} {first : IdealSwitch} {first_sent sent : RoomView Departure}
    {slot n : ℕ} {now : IdealSwitch} (r : Running ms came first first_sent slot n now sent) where
  -- the run over these slots too
  run_behind : (later all : List (List (Option Cell))) → first_slots came slot ++ later ≡ all →
      limited_run first.limits ms 0 all (marked_state first)
      ≡ behind r.ran.admissions r.ran.gone (limited_run first.limits ms slot later r.ran.after)
  run_behind later all is = search (arith, rules, limited_parts first.limits ms 0 slot, arriving_length)

  -- ## The end of the loop

  pub at_end : (end_of came ≤ slot) × All (λ cells. cells ≡ []) now.state.lists →
      departures_limited (limited_run first.limits ms 0 (traffic_of came) (marked_state first)) ≡ Ok sent.items
  unfolding traffic_of arriving_from
  at_end over =
      let rest = limited_stays_empty first.limits ms came n slot (marked_state now) over.0 (none_waits _ over.1) in
      let all = arriving_parts came 0 slot slot n (enough came) (omega arith) (sym r.left) in
      let sent_all = departures_append 0 slot r.ran.gone rest.ran.gone (omega arith) in
      cc (run_behind _ (traffic_of came) all, append-nil sent.items)

-- What a slot sent stands in a list of its own, in which nothing stood before, until the departures of the run take it
-- over. So what holds of that list holds of the departures of the run.

-- nothing stands in the list, and it has a place for each port
pub record IsFree (ports : ℕ) (leaving : RoomView Departure) : Type 0 where
  pub none : leaving.items ≡ []
  pub few : leaving.spare ≡ ports

module _ {slot ports : ℕ} {gone : List (Option Queued)} {leaving left : RoomView Departure}
    (free : IsFree ports leaving) (has : HaveLeft slot gone leaving left) where
  -- the list is free again once it is emptied
  pub free_again : {emptied : RoomView Departure} → emptied.items ≡ [] →
      emptied.spare ≡ left.spare + length left.items → IsFree ports emptied
  free_again none room = grind (arith, common_steps, length-append)

  -- the departures of the run took over what stood in it
  pub left_with_all : {sent sent_new : RoomView Departure} → sent_new.items ≡ sent.items ++ left.items →
      sent_new.spare + length left.items ≡ sent.spare → HaveLeft slot gone sent sent_new
  left_with_all {sent} {sent_new} items spare = grind (arith, common_steps, length-append)

-- Stretches of slots that are skipped, since no cell comes in them and none waits. What is known of the ideal switch
-- before the first of them is known after the last: none sends a cell, nothing is refused, and the lists stay as they
-- are.

-- fewer come in some slots than in those with the stretch before them: in all, for an output, and at an input
pub record ComeFewer (came : List Arrival) (slot m next n : ℕ) : Type 0 where
  pub all : come_count (arriving_from came next n) ≤ come_count (arriving_from came slot m)
  pub to : (j : ℕ) → come_for j (arriving_from came next n) ≤ come_for j (arriving_from came slot m)
  pub from : (i : ℕ) → come_from i came next n ≤ come_from i came slot m

pub fewer_come : (came : List Arrival) (slot k n next m : ℕ) → next ≡ slot + k → m ≡ k + n →
    ComeFewer came slot m next n
unfolding arriving_from come_count
fewer_come came slot zero n next m e f = grind (arith, common_steps)
fewer_come came slot (suc k) n next m e f =
    let rest = fewer_come came (slot + 1) k n next (k + n) (omega arith) refl in
    let one_more : m ≡ suc (k + n) = omega arith in
    rw one_more (search (arith, rules, rest.to, rest.from, for_here, from_here))

module _ (M : List ℕ → Machine) {came : List Arrival} {first : IdealSwitch} {first_sent sent : RoomView Departure}
    {slot m next : ℕ} {now new : IdealSwitch} (r : Running (map M first.fixed) came first first_sent slot m now sent)
    (quiet : IsQuiet came slot next) (rested : HasRestedIdeal (map M now.fixed) slot next now new) where
  -- where a cell is to come or waits, the run stands at a slot that is to be run
  pub stands : (end_of came ≤ slot → All (λ cells. cells ≡ []) now.state.lists → ⊥) →
      Running (map M first.fixed) came first first_sent next (suc (enough came - (next + 1))) new sent
  stands more =
      let some : next < enough came =
      search (arith, rules, more, quiet.more, enough_are, cases_lt slot, nothing_left) in
      let n = suc (enough came - (next + 1)) in
      let left : next + n ≡ enough came = omega arith in
      let k = next - slot in
      let gone = replicate k (replicate (length now.fixed) None) in
      let fewer = fewer_come came slot k n next m (omega arith) (omega arith) in
      let none = quiet_slots came slot k (λ t from to. quiet.none t from (omega arith)) in
      let all = rw none at (arriving_parts came 0 slot slot k next (omega arith) (omega arith)) in
      let admissions = r.ran.admissions ++ replicate k (nothing_refused new.marks no_arrivals) in
      let ran : LimitedRan = record { admissions = admissions; gone = r.ran.gone ++ gone; after = marked_state new } in
      let on : limited_run first.limits (map M first.fixed) 0 (first_slots came next) (marked_state first) ≡ Ok ran =
      search (arith, rules, run_behind r (replicate k no_arrivals) (first_slots came next)) in
      let sent_all = departures_append 0 slot r.ran.gone gone (omega arith) in
      let nothing = none_departs (length now.fixed) k slot in
      search (arith, rules, append-nil, r.each, fewer.to, quiet.more, r.counts, length-append, length-replicate)

-- ## The test

pub goes_on : {b : Bool} {end slot : ℕ} {Empty : Type 0} → b ≡ false → (IsTrue b ↔ ((end ≤ slot) × Empty)) →
    end ≤ slot → Empty → ⊥
goes_on going iff le none = grind (arith, common_steps, iff)

-- ## The steps

-- what is left is no more than the slots that are left after one of them, in which a cell leaves where one waits
pub fewer_after : (before after here rest end slot n : ℕ) → after ≤ before + here - 1 →
    before + (here + rest) + (end - slot) ≤ suc n → (end ≤ slot → here ≡ 0) → (end ≤ slot + 1 → rest ≡ 0) →
    after + rest + (end - (slot + 1)) ≤ n
fewer_after before after here rest end slot n less few none over = search (arith, rules, over, cases_lt)

-- what the numbers of a slot follow from
pub ruleset numbers =
    (for_here, from_here, some_one, waiting, come_count, present, fewer_after, none_after, none_come, length-append)

-- the run stands at this slot, which is to be run
module _ (M : List ℕ → Machine) {came : List Arrival} {first : IdealSwitch} {first_sent sent : RoomView Departure}
    {slot n : ℕ} {now : IdealSwitch} (r : Running (map M first.fixed) came first first_sent slot (suc n) now sent) where
  -- the slot finds all that it asks for, with a free list for what is sent
  pub can_have : {cells : List (Option Cell)} {leaving : RoomView Departure} → cells ≡ arriving came slot →
      IsFree (length first.fixed) leaving → CanHaveSlot (map M now.fixed) slot cells now leaving
  can_have {cells} are free = search (arith, rules, for_here, arrivals_for, r.counts, r.ready.short)

  pub at_next : {cells : List (Option Cell)} {after : IdealSwitch} {leaving left sent_new : RoomView Departure}
      {of_slot : LimitedSent} → cells ≡ arriving came slot → IsFree (length first.fixed) leaving →
      its_slot (map M now.fixed) slot cells now ≡ Ok of_slot → HasHadSlot slot of_slot now after leaving left →
      IsSameSwitch now after → after.stopped ≡ false → sent_new.items ≡ sent.items ++ left.items →
      sent_new.spare + length left.items ≡ sent.spare →
      Running (map M first.fixed) came first first_sent (slot + 1) n after sent_new
  unfolding limited_run departures_of arriving_from come_count
  at_next {cells} {after} {leaving} {left} {sent_new} {of_slot} are free was had switch running items spare =
      let ms = map M first.fixed in
      let here = arriving came slot in
      let same : map M now.fixed ≡ ms = ap (map M) r.same.fixed in
      let is : limited_slot first.limits ms slot here (marked_state now) ≡ Ok of_slot =
      rw (are, same, r.same.limits) at was in
      let o = of_admitted first.limits ms slot here (marked_state now) of_slot is in
      let all = r.ran.admissions ++ of_slot.admission ∷ [] in
      let gone = r.ran.gone ++ of_slot.gone ∷ [] in
      let ran : LimitedRan = record { admissions = all; gone = gone; after = of_slot.after } in
      let run = run_behind r (here ∷ []) (first_slots came (slot + 1)) (sym (first_more came slot)) in
      let gone_on = departures_append 0 slot r.ran.gone (of_slot.gone ∷ []) (omega arith) in
      let lost = of_slot.admission.refused in
      let to_count = length first.fixed + come_count (arriving_from came (slot + 1) n) in
      let counts = counts_fit lost to_count (length lost) now.refused (search (arith, rules, r.counts)) (omega arith) in
      search (arith, rules, numbers, append-nil, r.each, o.each, o.counts.each, r.few, left_with_all)

  pub at_fault : (cells : List (Option Cell)) (fault : TagFault) → cells ≡ arriving came slot →
      Err fault ≡ answer_to (its_slot (map M now.fixed) slot cells now) →
      departures_limited (limited_run first.limits (map M first.fixed) 0 (traffic_of came) (marked_state first))
      ≡ Err fault
  unfolding traffic_of arriving_from
  at_fault cells fault are answer =
      let all = arriving_parts came 0 slot slot (suc n) (enough came) (omega arith) (sym r.left) in
      search (arith, rules, run_behind r (arriving came slot ∷ arriving_from came (slot + 1) n), run_fault)

-- One slot of the fabric by its numbers. The cells that wait at the inputs grow by those that arrive and fall by one
-- for each transfer. A phase has no more proposals than the number of ports squared, and none where no cell waits at
-- an input. Beside an ideal switch a cell leaves in each slot in which one waits or comes.

-- ## Arrivals

pub one_present : (cells : List (Option Cell)) (i : ℕ) → one_if (arrival_at cells i) ≤ length (present cells)
one_present [] i = omega arith
one_present (o ∷ cells) i = grind (arith, common_steps, one_present cells (i - 1))

-- where each number in a row grows by one at most, and only where a cell arrives, their sum grows by no more than come
grown : (cells : List (Option Cell)) (f g : ℕ → ℕ) (a n : ℕ) →
    ((t k : ℕ) → t ≡ a + k → g t ≤ f t + one_if (arrival_at cells k)) →
    sum (map g (range_with_len a n)) ≤ sum (map f (range_with_len a n)) + length (present cells)
grown cells f g a zero le = omega arith
grown [] f g a (suc n) le =
    grind (arith, common_steps, sum_by-cons, le a zero, grown [] f g (a + 1) n (λ t k e. le t (suc k) (omega arith)))
grown (o ∷ cells) f g a (suc n) le =
    grind (arith, common_steps, sum_by-cons, le a zero, grown cells f g (a + 1) n (λ t k e. le t (suc k) (omega arith)))

longer_one : (f : Fabric) (came : Option Queued) (cell : Option Cell) (xs : List Queued) →
    ((c : Queued) → came ≡ Some c → cell ≡ Some c.cell) → length (list_arrived f came xs) ≤ length xs + one_if cell
longer_one f came cell xs is = grind (arith, common_steps, is, length-insert)

-- ## A transfer

length-cons_option : (o : Option Transfer) (ts : List Transfer) → length (cons_option o ts) ≡ length
    (cons_option o []) + length ts
length-cons_option o ts = grind (arith, common_steps)

module _ (slot phase : ℕ) where
  one_taken : (i : ℕ) (p : Option ℕ) (xs : List Queued) → length
      (cons_option (noted slot phase i xs p) []) + length (list_taken p xs) ≤ length xs
  one_taken i p [] = grind (arith, common_steps)
  one_taken i p (x ∷ xs) = search (arith, rules, one_taken i p xs)

  module _ (m : Partners) (f g : Fabric) (step : Transfers m f g) where
    some_cross : (a n : ℕ) → length (filter_map (λ i. noted slot phase i (input f i) (partner_of m i))
        (range_with_len a n)) + sum (map (λ i. length (input g i)) (range_with_len a n))
        ≤ sum (map (λ i. length (input f i)) (range_with_len a n))
    some_cross a zero = omega arith
    some_cross a (suc n) =
        grind (arith, common_steps, sum_by-cons, one_taken, length-cons_option, some_cross (a + 1) n)

    all_cross : length m ≡ length f.inputs →
        length (transfers_of m f.inputs slot phase) + sum (fabric_listed g) ≤ sum (fabric_listed f)
    unfolding transfers_of fabric_listed
    all_cross same = rw (step.moves.ports.0, ← same) (some_cross 0 (length m))

pub shorter : (m : Partners) (f g : Fabric) → Transfers m f g → (i : ℕ) → length (input g i) ≤ length (input f i)
shorter m f g step i = search (arith, rules, one_taken 0 0 i (partner_of m i) (input f i), step.moves.taken)

-- ## Proposals

module _ (o : Orders) (m : Partners) (is : IsMatching o m) where
  -- where no order is longer than this
  proposals_within : (b : ℕ) → ((i : ℕ) → length (outputs_of o i) ≤ b) → proposals o m ≤ ports o * b
  proposals_within b few =
      let f : ℕ → ℕ = λ i. spent (outputs_of o i) (partner_of m i) in
      search (arith, rules, length-map-range_with_len f 0 (ports o), sum_by-le, get_or-map-range_with_len f 0 (ports o))

in_range : (f : Fabric) → IsFabric f → OutputsInRange f.inputs
in_range f is i j c first = search (arith, rules, is.outputs i c, has_there, first_at (is_for j) (input f i) c first)

module _ (f : Fabric) (m : Partners) (is : IsMatching (orders_of f.inputs) m) where
  pub proposals_few : IsFabric f → proposals (orders_of f.inputs) m ≤ length f.inputs * length f.inputs
  proposals_few fabric =
      let few = outputs_at_most (orders_of f.inputs) (are_offers f.inputs (in_range f fabric)) in
      rw (← length-map f.inputs output_order) (proposals_within (orders_of f.inputs) m is _ few)

  pub proposals_none : ((i : ℕ) → length (input f i) ≡ 0) → proposals (orders_of f.inputs) m ≡ 0
  proposals_none none = search (arith, rules, proposals_within (orders_of f.inputs) m is 0, outputs_at, nil_from_length)

-- ## Beside an ideal switch

waiting-sum : (lists : List (List Queued)) → waiting lists ≡ sum (map length lists)
unfolding waiting
waiting-sum [] = refl
waiting-sum (cells ∷ lists) = grind (arith, common_steps, sum_by-cons, waiting-sum lists)

-- as many cells wait in the ideal switch as the fabric holds
pub all_wait : (slot : ℕ) (f : Fabric) (ideal : IdealState) → Agrees slot f ideal →
    waiting ideal.lists ≡ sum (fabric_held f)
all_wait slot f ideal agrees = cc (waiting-sum ideal.lists, hold_as_many slot f ideal agrees)

pub empty_beside : (slot : ℕ) (f : Fabric) (ideal : IdealState) → Agrees slot f ideal → sum (fabric_held f) ≡ 0 →
    IsEmptyFabric f
empty_beside slot f ideal agrees none = search (arith, rules, empty_together slot f ideal, nothing_left, all_wait slot)

-- ## A slot by its numbers

module _ {ms : List Machine} {slot : ℕ} {cells : List (Option Cell)} {f g : Fabric} {r : SlotRecord}
    (step : FabricSlot IsInputBest ms slot cells f r g) where
  arrived_one : (i : ℕ) → length (input r.arrived i) ≤ length (input f i) + one_if (arrival_at cells i)
  arrived_one i =
      let from = came_from ms slot 0 cells f.ranks (record { came = r.came; ranks = r.arrived.ranks }) in
      search (arith, rules, longer_one f (came_to r.came i) (arrival_at cells i) (input f i), from, step.arrive)

  arrived_all : sum (fabric_listed r.arrived) ≤ sum (fabric_listed f) + length (present cells)
  unfolding fabric_listed
  arrived_all = rw step.arrive.ports (grown cells (λ i. length (input f i)) (λ i. length (input r.arrived i)) 0
      (length f.inputs) (λ t k e. let same : t ≡ k = omega arith in rw same (arrived_one k)))

  sent_all : sum (fabric_listed r.sent) ≡ sum (fabric_listed r.filled)
  unfolding fabric_listed
  sent_all = simp step.depart.inputs

  -- each transfer takes a cell from an input
  pub cross_few : length (transfers_in r) + sum (fabric_listed g) ≤ sum (fabric_listed f) + length (present cells)
  unfolding transfers_in
  cross_few = search (arith, rules, arrived_all, all_cross, sent_all, length-append, length-map)

  -- where the fabric agrees with an ideal switch a cell leaves in a slot in which one waits or comes, so each of them
  -- pays for the proposals of one slot
  module _ {classes : ℕ} {ideal : IdealState} (agrees : Agrees slot f ideal)
      (come : AreForPorts (length f.inputs) classes cells) where
    stable : FabricSlot IsStable ms slot cells f r g
    stable = stable_slot ms slot cells f g r step

    pub fewer_held : sum (fabric_held g) ≤ sum (fabric_held f) + length (present cells) - 1
    fewer_held =
        let alike = same_slot ms slot classes cells f g ideal r agrees come stable in
        omega (arith, counted ms slot cells ideal _ alike.sent, all_wait, alike.agrees)

    proposed_few : length f.inputs ≤ most_ports → sum (proposals_in r) ≤ 8192
    unfolding proposals_in
    proposed_few few =
        let after = after_sent ms slot classes cells f g ideal r agrees come stable in
        search (arith, rules, proposals_few, after, stable, mul-le-mul few few, arrived ms slot classes cells f)

    -- where no cell waits and none arrives none is proposed
    none_proposed : sum (fabric_held f) ≡ 0 → length (present cells) ≡ 0 → sum (proposals_in r) ≡ 0
    unfolding proposals_in
    none_proposed none quiet =
        let empty = empty_beside slot f ideal agrees none in
        let no_cell : (i : ℕ) → length (input f i) ≡ 0 = search (arith, rules, empty.inputs, get_or_past, cases_lt) in
        let fewer = shorter r.first r.arrived r.filled step.fill in
        search (arith, rules, no_cell, arrived_one, one_present cells, fewer, step.depart.inputs, proposals_none)

    pub slot_proposed : length f.inputs ≤ most_ports →
        sum (proposals_in r) + 8192 * sum (fabric_held g) ≤ 8192 * (sum (fabric_held f) + length (present cells))
    slot_proposed few = grind (arith, common_steps, fewer_held, proposed_few few, none_proposed, cases_lt)

-- What is still to come. The first arrival of a slot from this one on is the same among all arrivals as among those
-- that are still to come. So in any slots from this one on no more cells come than are to come, and no more for an
-- output or at an input than are to come for it or at it.

-- ## The same arrivals

at_kept : (s t k : ℕ) → s ≤ t → (came : List Arrival) → arriving_at (to_come s came) t k ≡ arriving_at came t k
at_kept s t k le [] = refl
at_kept s t k le (a ∷ came) = grind (arith, common_steps, leb-false, ne_eqb, and_left, at_kept s t k le came)

arriving_kept : (s t : ℕ) → s ≤ t → (came : List Arrival) → arriving (to_come s came) t ≡ arriving came t
unfolding arriving
arriving_kept s t le came =
    ap (λ (f : ℕ → Option Cell). map f (range_with_len 0 most_ports)) (λ e k. at_kept s t k le came e)

slots_kept : (s t : ℕ) → s ≤ t → (came : List Arrival) (n : ℕ) →
    arriving_from (to_come s came) t n ≡ arriving_from came t n
unfolding arriving_from
slots_kept s t le came zero = refl
slots_kept s t le came (suc n) = search (arith, rules, arriving_kept s, slots_kept s (t + 1) (omega arith) came n)

-- ## How many

-- what comes in some slots is no more than what is to come, which comes from slot 0 on
few_come : (s n : ℕ) (came : List Arrival) →
    (come_count (arriving_from came s n) ≤ length (to_come s came))
    × ((j : ℕ) → come_for j (arriving_from came s n) ≤ number_of (is_to j) (to_come s came))
    × ((i : ℕ) → come_from i came s n ≤ number_of (is_from i) (to_come s came))
unfolding arriving_from come_from found
few_come s n came =
    let less = fewer_come (to_come s came) 0 s n s (s + n) (omega arith) refl in (
      search (arith, rules, come_count-first, slots_kept),
      search (arith, rules, less.to, no_more_to, slots_kept),
      λ i. let from = less.from i in search (arith, rules, from, total, total_same, at_kept, no_more_from),
    )

-- The run of the fabric from any slot on, slot by slot. At each slot the fabric agrees with an ideal switch, so what
-- is known of one slot of that holds here too: its departures fit, it refuses the same cells, and a cell that waits
-- leaves. The cells that the fabric holds, and those that are still to come, are no more than there is room for: in
-- each list, in each buffer, and in the lists of departures and of transfers, as each admitted cell leaves once and
-- crosses once. While a cell waits one leaves in each slot, so that the slots do not end before the cells, and there
-- are no more slots with proposals than cells; and a slot has no more than twice the number of ports squared.

-- ## The loop of the fabric

-- a slot by which a run from this slot on is over
abbrev pub over_by : List Arrival → ℕ → ℕ
over_by came next = next + (end_of came - next) + length came

-- what is known before a slot of a run that could begin, where so many slots are left up to this end, and these are no
-- late ones. Of a run to its end (`whole`) that are enough slots, and it was not over before.
pub record Crossing (whole : Bool) (ms : List Machine) (came : List Arrival) (first : EngineView)
    (first_sent : RoomView Departure) (first_note : RoomView Transfer) (end slot n : ℕ) (now : EngineView)
    (sent : RoomView Departure) (note : RoomView Transfer) : Type 0 where
  pub ready : IsReadyOn ms came first first_sent first_note
  pub left : slot + n ≡ end
  pub early : end ≤ 2 ^ 63 + 2 ^ 36
  pub ideal : Marked IdealState
  pub agrees : LimitedAgrees slot (marked_fabric now) ideal
  pub next : now.next ≡ slot
  pub made : IsMadeAs first now
  pub ports : length now.fabric.inputs ≡ ports_of first
  pub records : List LimitedRecord
  pub long : first.next + length records ≡ slot
  pub went : WentOn ms came first now first_sent sent first_note note records
  pub lists : (i : ℕ) → i < ports_of first →
      length (input now.fabric i) + come_from i came slot n ≤ slice_index first.from_inputs i
  pub buffers : (j : ℕ) → j < ports_of first →
      held_for j now.fabric + come_for j (arriving_from came slot n) ≤ slice_index first.to_outputs j
  pub spare : sum (fabric_held now.fabric) + come_count (arriving_from came slot n) + ports_of first ≤ sent.spare
  pub room : sum (fabric_listed now.fabric) + come_count (arriving_from came slot n) + 2 * ports_of first ≤ note.spare
  pub proposed : now.figures.proposals + 8192 * (sum (fabric_held now.fabric) + come_count
      (arriving_from came slot n)) ≤ first.figures.proposals + 8192 * length came
  pub counts : CanCount (ports_of first + come_count (arriving_from came slot n)) now.refused
  pub few : whole ≡ true →
      sum (fabric_held now.fabric) + come_count (arriving_from came slot n) + (end_of came - slot) ≤ n
  pub going : whole ≡ true → (m : ℕ) (f : Marked Fabric) → m < length records → RanTo ms came first m records f →
      end_of came ≤ first.next + m → IsEmptyFabric f.state → ⊥

-- what left in a slot
pub left_here : {ms : List Machine} {slot : ℕ} {cells : List (Option Cell)} {now after : EngineView}
    {leaving left : RoomView Departure} {note note_new : RoomView Transfer}
    (done : SlotDone ms slot cells now after leaving left note note_new) →
    HaveLeft slot done.record_of.of_slot.gone leaving left
left_here done = record { items = done.departed; spare = done.departed_room }

-- ## Before the first slot

pub crossing_first : (whole : Bool) (ms : List Machine) (came : List Arrival) (first : EngineView)
    (sent : RoomView Departure) (note : RoomView Transfer) (end n : ℕ) → IsReadyOn ms came first sent note →
    first.next + n ≡ end → end ≤ 2 ^ 63 + 2 ^ 36 → (whole ≡ true → end ≡ over_by came first.next) →
    Crossing whole ms came first sent note end first.next n first sent note
unfolding arriving_from departures_of transfers_of_run
crossing_first whole ms came first sent note end n ready left early slots =
    let ideal : Marked IdealState = record { state = ideal_of first.fabric; marks = first.marks } in
    let agrees : LimitedAgrees first.next (marked_fabric first) ideal = search (rules, agrees_of) in
    let went : WentOn ms came first first sent sent note note [] = search (arith, rules, append-nil, none_counted) in
    search (arith, rules, slots, few_come first.next n came, ready.lists, ready.buffers, ready.refused)

-- ## The run so far

module _ {whole : Bool} {ms : List Machine} {came : List Arrival} {first : EngineView} {first_sent : RoomView Departure}
    {first_note : RoomView Transfer} {end slot n : ℕ} {now : EngineView} {sent : RoomView Departure}
    {note : RoomView Transfer} (c : Crossing whole ms came first first_sent first_note end slot n now sent note) where
  -- the run is not over before a slot, or at it
  not_before : whole ≡ true → (end_of came ≤ slot → IsEmptyFabric now.fabric → ⊥) → (m : ℕ) (f : Marked Fabric) →
      m ≤ length c.records → RanTo ms came first m c.records f → end_of came ≤ first.next + m →
      IsEmptyFabric f.state → ⊥
  not_before is more m f le run late empty =
      search (arith, rules, c.going is m, take_all, only_limited_run ms first.limits, cases_lt m (length c.records))

  -- the run goes on with these records, which keep this
  went_on : (k : ℕ) (rs : List LimitedRecord) {after : EngineView} {sent_new : RoomView Departure}
      {note_new : RoomView Transfer} → length rs ≡ k →
      LimitedFabricRun IsInputBest first.limits ms slot (arriving_from came slot k) (marked_fabric now) rs
      (marked_fabric after) → kept_with after sent_new note_new ≡ kept_on (kept_with now sent note) slot rs →
      after.limits ≡ now.limits → after.stopped ≡ false →
      WentOn ms came first after first_sent sent_new first_note note_new (c.records ++ rs)
  went_on k rs {after} many run kept limits running =
      let on = all_go_on (LimitedFabricSlot IsInputBest first.limits ms) (IsLimitedFault first.limits ms) in
      let both = kept_both (kept_with first first_sent first_note) first.next slot c.records rs c.long in
      search (arith, rules, arriving_length, length-append, arriving_parts came first.next slot (length c.records) k)

-- Stretches of slots that the fabric skips. What is known before the first of them is known after the last: none sends
-- a cell, moves or refuses one, or changes a figure, and the ideal switch beside it holds as many cells as before.

module _ {whole : Bool} (M : List ℕ → Machine) {came : List Arrival} {first : EngineView}
    {first_sent sent : RoomView Departure} {first_note note : RoomView Transfer} {end slot m next : ℕ}
    {now new : EngineView}
    (c : Crossing whole (map M first.fixed) came first first_sent first_note end slot m now sent note)
    (rested : HasRested (map M now.fixed) slot next now new) where
  pub crossing_rest : (n : ℕ) → slot ≤ next → next + n ≡ end → NoneCome came slot next →
      (whole ≡ true → slot < next → next < end_of came) →
      Crossing whole (map M first.fixed) came first first_sent first_note end next n new sent note
  unfolding fabric_held fabric_listed
  crossing_rest n late left quiet more =
      let k = next - slot in
      let ms = map M first.fixed in
      let rs = quiet_limited_slots ms k slot (ports_of now) now.fabric.ranks now.marks in
      let none = quiet_slots came slot k (λ t from to. quiet t from (omega arith)) in
      let same : map M now.fixed ≡ ms = ap (map M) c.made.fixed in
      let run : LimitedFabricRun IsInputBest first.limits ms slot (arriving_from came slot k) (marked_fabric now) rs
      (marked_fabric new) = rw none (rw (same, c.went.limits) at rested.slots) in
      let fit = slots_fit (ports_of first) (class_count ms) came slot k c.ready.traffic in
      let alike = (best_act_alike first.limits ms).run slot (class_count ms) (arriving_from came slot k)
      (marked_fabric now) (marked_fabric new) c.ideal rs c.agrees (rw c.ports fit) run in
      let held : sum (fabric_held new.fabric) ≡ sum (fabric_held now.fabric) = simp (rested.inputs, rested.buffers) in
      let listed : sum (fabric_listed new.fabric) ≡ sum (fabric_listed now.fabric) = simp rested.inputs in
      let long = arriving_length came slot k in
      let many = run_length (LimitedFabricSlot IsInputBest first.limits ms) slot _ _ _ rs run ∙ long in
      let less = fewer_come came slot k n next m (omega arith) (omega arith) in
      let nothing = kept_quiet ms (ports_of now) now.marks (kept_with now sent note) k slot now.fabric.ranks in
      let went = went_on c k rs {after = new} {sent_new = sent} {note_new = note} many run (cc) rested.limits in
      search (arith, rules, length-append, c.lists, c.buffers, less, more, c.going, c.counts, rested.running)

-- The run, which began there and is to its end or not, stands at this slot, which is to be run.
pub record Stands (whole : Bool) (end : ℕ) (M : List ℕ → Machine) (came : List Arrival) (first : EngineView)
    (first_sent : RoomView Departure) (first_note : RoomView Transfer) (slot n : ℕ) (now : EngineView)
    (sent : RoomView Departure) (note : RoomView Transfer) : Type 0 where
  pub crossing : Crossing whole (map M first.fixed) came first first_sent first_note end slot (suc n) now sent note
  pub more : whole ≡ true → end_of came ≤ slot → IsEmptyFabric now.fabric → ⊥

-- ## Where a run stands

module _ {whole : Bool} {end : ℕ} {M : List ℕ → Machine} {came : List Arrival} {first : EngineView}
    {first_sent : RoomView Departure} {first_note : RoomView Transfer} {slot n : ℕ} {now : EngineView}
    {sent : RoomView Departure} {note : RoomView Transfer}
    (here : Stands whole end M came first first_sent first_note slot n now sent note) where
  abbrev c : Crossing whole (map M first.fixed) came first first_sent first_note end slot (suc n) now sent note
  c = here.crossing

  same_ports : length now.fixed ≡ length first.fixed
  same_ports = ap (λ (l : List (List ℕ)). length l) c.made.fixed

  for_ports : AreForPorts (length first.fixed) (class_count (map M first.fixed)) (arriving came slot)
  for_ports = arrivals_for (length first.fixed) (class_count (map M first.fixed)) came slot c.ready.traffic

  list_room : (cells : List (Option Cell)) → cells ≡ arriving came slot → HaveListRoom cells now
  list_room cells are i cell at =
      search (arith, rules, for_ports.inputs, from_here i came slot n, arrives_found came slot i, one_if)

  -- the slot finds all that it asks for
  pub can_run_here : (cells : List (Option Cell)) → cells ≡ arriving came slot → (leaving : RoomView Departure) →
      length first.fixed ≤ leaving.spare →
      AreForPorts (length now.fixed) (class_count (map M now.fixed)) cells × IsReadyFor cells now leaving note
  can_run_here cells are leaving room =
      search (arith, rules, list_room, c.buffers, for_here, for_ports, same_ports, c.counts)

  -- once it is run, the run stands at the next one
  pub next_here : {cells : List (Option Cell)} {after : EngineView} {leaving left sent_new : RoomView Departure}
      {note_new : RoomView Transfer} → cells ≡ arriving came slot →
      (done : SlotDone (map M now.fixed) slot cells now after leaving left note note_new) →
      HaveLeft slot done.record_of.of_slot.gone sent sent_new → HasGoneOn slot now after → IsMadeAs now after →
      after.stopped ≡ false →
      Crossing whole (map M first.fixed) came first first_sent first_note end (slot + 1) n after sent_new note_new
  unfolding arriving_from figures_after come_count
  next_here {after = after} {sent_new = sent_new} {note_new = note_new} are done put gone_on made running =
      let cells = arriving came slot in
      let ms = map M first.fixed in
      let classes = class_count ms in
      let f = marked_fabric now in
      let g = marked_fabric after in
      let same_machines : map M now.fixed ≡ ms = ap (map M) c.made.fixed in
      let r = done.record_of in
      let step : LimitedFabricSlot IsInputBest first.limits ms slot cells f r g =
      rw (are, same_machines, c.went.limits) at done.is_slot in
      let stable = stable_limited_slot ms first.limits slot cells f g r step in
      let come : AreForPorts (length now.fabric.inputs) classes cells = rw c.ports for_ports in
      let admitted_come : AreForPorts (length now.fabric.inputs) classes r.admission.cells =
      search (arith, rules, admission_for_ports) in
      let alike = same_limited_slot first.limits ms slot classes cells f g c.ideal r c.agrees come stable in
      let of_slot : LimitedSent = record { admission = r.admission; gone = r.of_slot.gone; after = alike.next } in
      let o = of_admitted first.limits ms slot cells c.ideal of_slot alike.sent in
      let went = went_on c 1 (r ∷ []) {after = after} {sent_new = sent_new} {note_new = note_new} refl (g, step, refl)
      (cc (departures_one slot r.of_slot, transfers_one r.of_slot, append-nil r.admission.refused)) made.limits
      running in
      let lists = limited_lists_kept first.limits ms slot cells f g r stable in
      let held = limited_outputs_kept first.limits ms slot cells f g r stable in
      let same = λ (m : ℕ). take-append-le m c.records (r ∷ []) in
      let goes = λ (is : whole ≡ true). not_before c is (here.more is) in
      let wait = all_wait slot now.fabric c.ideal.state c.agrees.states in
      let wait_there = all_wait (slot + 1) after.fabric alike.next.state alike.agrees.states in
      let proposed = slot_proposed step.runs c.agrees.states admitted_come (omega (arith, same_ports)) in
      let lost = r.admission.refused in
      let to_count = ports_of first + come_count (arriving_from came (slot + 1) n) in
      let counts = counts_fit lost to_count (length lost) now.refused (search (arith, rules, c.counts)) (omega arith) in
      search (arith, rules, numbers, c.lists, c.few, held, lists, arrives_found came, same, goes, cross_few)

  -- and a tag fault of the slot is one at which the run stops, whatever comes behind it
  pub fault_here : (cells : List (Option Cell)) (fault : TagFault) (count : ℕ) → slot < first.next + count →
      cells ≡ arriving came slot →
      Err fault ≡ answer_to (ranking (map M now.fixed) slot 0 (its_admission cells now).cells now.fabric.ranks) →
      StopsWithin (map M first.fixed) came first count fault
  fault_here cells fault count long are answer =
      let ms = map M first.fixed in
      let all = arriving_parts came first.next slot (length c.records) (suc (first.next + count - (slot + 1))) count in
      let on = all_go_on (LimitedFabricSlot IsInputBest first.limits ms) (IsLimitedFault first.limits ms) in
      record { records = c.records ++ []; stops = search (arith, rules, all, on.stop, arriving_here, arriving_length) }

-- ## To the slot that is run next

module _ (M : List ℕ → Machine) {came : List Arrival} {end : ℕ} {first : EngineView}
    {first_sent sent : RoomView Departure} {first_note note : RoomView Transfer} {slot : ℕ} {now : EngineView} where
  -- quiet slots are skipped in a run to its end
  pub run_stands : Crossing true (map M first.fixed) came first first_sent first_note end slot (end - slot) now sent
      note → {next : ℕ} {new : EngineView} → (end_of came ≤ slot → IsEmptyFabric now.fabric → ⊥) →
      slot ≤ next → (slot < next → IsQuiet came slot next) → HasRested (map M now.fixed) slot next now new →
      Stands true end M came first first_sent first_note next (end - (next + 1)) new sent note
  run_stands runs {next} more late quiet rested =
      search (arith, rules, empty_beside slot now.fabric, crossing_rest M runs rested, cases_lt slot next, quiet)

  -- in a run up to a slot those in which nothing comes are skipped, if any are
  pub part_rests : Crossing false (map M first.fixed) came first first_sent first_note end slot (end - slot) now sent
      note → {next : ℕ} {new : EngineView} → slot ≤ end → slot ≤ next →
      (slot < next → (next ≤ end) × NoneCome came slot next) → HasRested (map M now.fixed) slot next now new →
      Crossing false (map M first.fixed) came first first_sent first_note end next (end - next) new sent note
      × (next ≤ end)
  part_rests parts {next} before late skipped rested = grind (arith, common_steps, cases_lt, crossing_rest)

  pub part_stands : Crossing false (map M first.fixed) came first first_sent first_note end slot (end - slot) now sent
      note → slot < end → Stands false end M came first first_sent first_note slot (end - (slot + 1)) now sent note
  part_stands parts some = grind (arith, common_steps)
