-- Where the cells of a stopped run stand: each one that waits at an input or at an output waits for its output in the
-- ideal switch, and each one that left is among those that left its output. So of two that wait under one name both
-- are one, and of all others the names differ. Each name in the state is of such a cell, and comes to it: each list to
-- the list of its input, each buffer to that of its output, and each departure to itself. So the clauses hold that ask
-- for a sound state, but for the fourth.
use Rattle.cq_stopped.proofs.Terms.{rules, ◌≡◌, ℕ, ◌<◌, List, [], length, Option, refl, sym, ◌∙◌, inl, inr, arith, true, ◌++◌, map, Some, ap, ◌≤◌, and_from, and_parts, eq-eqb, eqb-true, common_steps, map-append, list_any, is_some, slice_index_or, filter, option_map, IsSome, IsBefore, is_for, Departure, Queued, Transfer, HasWaited, IdealState, apart_from, not_before_itself, Fabric, buffer, input, fabric_in, HasFor, list_of, machine_at, EachPair, all_pairs, cell_with, Differ, Has, all_from_has, all_of_has, has_left, has_right, pair_of_has, has_cases, has_image, image_has, kept_has, pairs_cross, pairs_right, pairs_with, sent_told, named_as, sent_as, state_of, HaveSlack, AreArrivals, IsBufferedBefore, IsSentBefore, IsTransferBefore, StandInOrder, KeepArrivalOrder, OfOneFlow, AreBelowFloors, IsBelowFloor, Switch, HasShape, class_in, class_of, named_in, output_in, output_of, queued_in, buffer_told, fabric_told, list_told, queued_of, arriving_cell, is_ahead, Taken, Named, Sent, told_state, State, has_all, any_has, has_any, pairs_joined, pairs_mapped, get_or_past, cases_lt, filter_images}
use Rattle.cq_stopped.proofs.Lined.{pairs_in, all_of, pairs_of_all, has_at_place, is_at, pairs_both, sift, told_again, by_places, image_pairs, AreMoved, left_has}
use Rattle.cq_stopped.proofs.Ran.{DepartsBefore, Follows, IsOwn, IsSentRight, Known, left_at, pool_at, IsHeld, came_in, is_name_at}

-- the name of a cell of which this is known
pub record IsNameOf (P : Queued → Type 0) (c : Named) : Type 0 where
  pub cell : Queued
  pub is : named_as cell ≡ c
  pub own : P cell

module _ {w : Switch} (at : Taken) {ideal : IdealState} {cs : List (List (Option Queued))}
    (known : Known w at.frozen.next (fabric_in at.frozen) ideal cs at.sent) where
  abbrev pub f : Fabric
  f = fabric_in at.frozen

  abbrev pub st : State
  st = told_state w at

  -- the cells that wait at inputs, and at outputs
  abbrev pub listed : List Queued
  listed = all_of at.frozen.lists

  abbrev pub buffered : List Queued
  buffered = all_of at.frozen.buffers

  -- a cell that the run keeps: it left its output or waits for it
  pub record IsKept (q : Queued) : Type 0 where
    pub inside : q.cell.output < length w.machines
    pub own : IsOwn w at.frozen.next q.cell.output q
    pub pool : Has (pool_at q.cell.output at.sent ideal) q

  -- one that waits
  pub record Waits (q : Queued) : Type 0 where
    pub kept : IsKept q
    pub there : Has (list_of ideal.lists q.cell.output) q

  kept_at : (q : Queued) → q.cell.output < length w.machines → Has (pool_at q.cell.output at.sent ideal) q → IsKept q
  kept_at q inside has = grind (arith, common_steps, all_of_has, IsOwn, pool_at)

  own_at : (j : ℕ) (q : Queued) → HasFor f j q → (j < length w.machines) × IsOwn w at.frozen.next j q
  own_at j q has =
      let there = (known.agrees.same j q).1 has in
      search (arith, rules, get_or_past, cases_lt, known.lanes j, all_of_has, has_right (left_at j at.sent), there)

  waits_for : (j : ℕ) (q : Queued) → q.cell.output ≡ j → HasFor f j q → Waits q
  waits_for j q same has = search (arith, rules, kept_at, has_right, left_at, own_at j q has)

  pub waits_at : (i : ℕ) (q : Queued) → Has (input f i) q → Waits q
  waits_at i q has = waits_for q.cell.output q refl (inl (i, has, refl))

  pub waits_behind : (j : ℕ) (q : Queued) → Has (buffer f j) q → Waits q
  waits_behind j q has = waits_for j q (known.agrees.fabric.own j q has) (inr has)

  right_at : (d : Departure) → Has at.sent d → IsSentRight w at.frozen.next d
  right_at d has = all_of_has (IsSentRight w at.frozen.next) at.sent d known.departed has

  -- one that left
  pub has_left_it : (d : Departure) → Has at.sent d →
      IsKept d.queued × Has (left_at d.queued.cell.output at.sent) d.queued
  has_left_it d has = search (arith, rules, right_at d has, left_has at.sent d, kept_at d.queued, has_left, left_at)

  -- ## One name

  -- two that wait under one name are one
  same_waiting : (a b : Queued) → Waits a → Waits b → a.key.slot ≡ b.key.slot → a.key.input ≡ b.key.input → a ≡ b
  same_waiting a b one two slot place = search (rules, Has, pair_of_has, pairs_right, left_at, known.lanes)

  -- of what left an output, what waits for it follows
  follows_left : (d : Departure) (q : Queued) → Has at.sent d → Waits q → d.queued.cell.output ≡ q.cell.output →
      Follows d.queued q
  follows_left d q has waits outputs =
      search (arith, rules, has_left_it d has, pairs_cross Follows, Follows, left_at, known.lanes, Has)

  -- what waits has another name than what left
  differ_left : (d : Departure) (q : Queued) → Has at.sent d → Waits q → Differ (named_as q) (named_as d.queued)
  differ_left d q has waits slot place = search (rules, follows_left d q has waits, has_left_it d has)

  -- of two that left one output the second follows the first, and so does what that tells
  each_sent : (R : Departure → Departure → Type 0) →
      ((d e : Departure) → Has at.sent d → Has at.sent e → (d.output ≡ e.output → Follows d.queued e.queued) → R d e) →
      EachPair R at.sent
  each_sent R tells = search (rules, pairs_in DepartsBefore, known.ordered)

  -- and so of the lists: each cell stands in its list by what is known of it there
  each_listed : (R : Queued → Queued → Type 0) →
      ((i : ℕ) (a b : Queued) → Has (input f i) a → Has (input f i) b →
      (a.cell.output ≡ b.cell.output → IsBefore a b) → R a b) →
      ((i k : ℕ) (a b : Queued) → i < k → Has (input f i) a → Has (input f k) b → R a b) → EachPair R listed
  each_listed R leads apart = search (rules, pairs_of_all R f.inputs, pairs_in, known.agrees.order)

  -- ## The shape

  -- as many rank states as machines
  pub states_many : length at.frozen.ranks ≡ length w.machines
  states_many = ap (λ (l : List (List ℕ)). length l) known.agrees.ranks ∙ known.states

  pub state_sized : (j : ℕ) → j < length at.frozen.ranks →
      length (slice_index_or at.frozen.ranks j []) ≡ (machine_at w.machines j).size
  state_sized j inside = grind (arith, common_steps, states_many)

  pub has_shape : HasShape w st
  unfolding state_of
  has_shape = grind (arith, common_steps, state_sized)

  -- ## The names: each is of a cell that left or waits, and each such cell has its name

  is_waiting : (c : Named) → Has (queued_in st) c → IsNameOf Waits c
  unfolding state_of
  is_waiting c has = search (rules, has_cases, image_has, all_of, is_at, waits_at, waits_behind)

  -- the names of what left
  abbrev gone : List Named
  gone = map (λ (d : Sent). d.cell) (map sent_as at.sent)

  pub is_of_one : (c : Named) → Has (named_in st) c → IsNameOf IsKept c
  unfolding state_of
  is_of_one c has = search (arith, rules, has_cases (queued_in st) gone c has, is_waiting, image_has, has_left_it)

  -- what a name tells
  its_output : (q : Queued) → IsKept q → output_of w.came (named_as q) ≡ q.cell.output
  its_output q kept = ap output_in kept.own.keyed.arrives

  its_class : (q : Queued) → IsKept q → class_of w.came (named_as q) ≡ q.cell.class
  its_class q kept = ap class_in kept.own.keyed.arrives

  waits_named : (q : Queued) → Has (listed ++ buffered) q → Has (named_in st) (named_as q)
  unfolding state_of
  waits_named q has = let image = has_image named_as (listed ++ buffered) q has in search (rules, map-append, has_left)

  name_left : (d : Departure) → Has at.sent d → Has (named_in st) (named_as d.queued)
  unfolding state_of
  name_left d has = search (rules, has_right, has_image (λ (e : Sent). e.cell), has_image sent_as at.sent d has)

  name_held : (t i : ℕ) (q : Queued) → IsHeld ideal at.sent t i q → Has (named_in st) (named_as q)
  name_held t i q it =
      search (arith, rules, has_cases, image_has, kept_has, name_left, waits_named, has_left, has_right, has_at_place)

  -- ## An arrival is named where its cell came in

  pub named_at : (t i : ℕ) → list_any (is_name_at t i) (named_in st) ≡ is_some (came_in cs t i)
  named_at t i =
      let one = is_of_one in
      search (arith, rules, any_has, name_held t i, known.held, and_from, eq-eqb, has_any, one, and_parts, eqb-true)

  -- ## What is told is what there was, and has slack: the third clause

  -- the cell of its name
  cell_again : (q : Queued) → IsKept q → queued_of w.came (named_as q) ≡ Some q
  cell_again q kept = ap (option_map (cell_with (named_as q))) kept.own.keyed.arrives

  list_again : (i : ℕ) → list_told w.came st i ≡ input f i
  unfolding state_of
  list_again i =
      search (rules, filter_images, sift (λ (q : Queued). q.key.input), known.placed, told_again, cell_again, waits_at)

  buffer_again : (j : ℕ) → buffer_told w.came st j ≡ buffer f j
  unfolding state_of
  buffer_again j = ap (filter (is_for j)) (search (arith, rules, told_again, is_at, cell_again, waits_behind))
      ∙ sift (λ (q : Queued). q.cell.output) at.frozen.buffers known.agrees.fabric.own j

  pub fabric_same : fabric_told w.came st ≡ f
  unfolding fabric_told state_of
  fabric_same =
      search (rules, by_places (list_told w.came st) [], by_places (buffer_told w.came st) [], list_again, buffer_again)

  pub slack_kept : HaveSlack w st
  slack_kept = rw fabric_same known.agrees.slack

  pub sent_same : at.sent ≡ sent_told w.came st
  unfolding state_of
  sent_same = search (arith, rules, told_again, right_at, has_left_it, cell_again)

  -- ## The first clause: each name is of an arrival before the next slot, and none is there twice. Two that wait under
  -- one name are one cell, and that stands at one place; what left has other names than what waits; and what left one
  -- output left it once.

  -- two cells have different names
  abbrev Other : Queued → Queued → Type 0
  Other a b = Differ (named_as a) (named_as b)

  queued_pairs : EachPair Differ (queued_in st)
  unfolding state_of
  queued_pairs = pairs_joined Differ (map named_as listed) (map named_as buffered) (pairs_mapped named_as Differ
      listed (search (arith, rules, each_listed Other, same_waiting, waits_at, not_before_itself, known.placed)))
      (pairs_mapped named_as Differ buffered (let all = pairs_of_all Other at.frozen.buffers in
      let pairs = pairs_with IsBefore Other Waits in let never = not_before_itself in
      search (arith, rules, all, pairs, same_waiting, never, all_from_has, waits_behind, known.agrees.fabric.own)))
      (let apart = apart_from f known.agrees.differ in
      search (arith, rules, image_has, all_of, Differ, is_at, same_waiting, waits_at, waits_behind, apart.between))

  pub arrivals_are : AreArrivals w.came st
  unfolding state_of
  arrivals_are =
      let Comes : Named → Type 0 = λ c. (c.slot < at.frozen.next) × IsSome (arriving_cell w.came c) in
      let left = pairs_mapped (λ (d : Sent). d.cell) Differ _ (pairs_mapped sent_as _ at.sent (each_sent
      (λ d e. Other d.queued e.queued) (search (arith, rules, right_at, has_left_it)))) in
      record {
        arrive = search (arith, rules, has_all Comes (named_in st), is_of_one);
        once = all_pairs Differ (named_in st) (pairs_joined Differ (queued_in st) gone queued_pairs left
            (search (arith, rules, is_waiting, image_has, differ_left)));
      }

  -- ## The fifth clause: the cells of each flow left in the order of arrival, those that wait came after them, and of
  -- two that wait the one that came first goes first. What left an output, and then what waits for it in the order of
  -- keys, stands so.

  abbrev Flow : Named → Named → Type 0
  Flow a b = OfOneFlow w.came a b

  -- two cells are of one input, output and class
  of_one : (a b : Queued) → IsKept a → IsKept b → Flow (named_as a) (named_as b) →
      (a.key.input ≡ b.key.input) × (a.cell.output ≡ b.cell.output) × (a.cell.class ≡ b.cell.class)
  of_one a b first second flow = grind (arith, common_steps, its_output, its_class)

  waits_after : (d : Departure) (q : Queued) → Has at.sent d → Waits q → Flow (named_as d.queued) (named_as q) →
      d.queued.key.slot < q.key.slot
  waits_after d q has waits flow = search (arith, rules, follows_left d q has waits, of_one, has_left_it)

  pub keep_order : KeepArrivalOrder w st
  unfolding state_of
  keep_order =
      let queued = queued_in st in
      let After : Sent → Named → Type 0 = λ d c. Flow d.cell c → d.cell.slot < c.slot in
      let Ahead : Named → Named → Type 0 = λ a b. Flow a b → a.slot < b.slot → is_ahead a b ≡ true in
      record {
        sent = image_pairs sent_as (λ (d e : Sent). Flow d.cell e.cell → d.cell.slot < e.cell.slot) at.sent
            (each_sent _ (search (arith, rules, of_one, has_left_it, right_at)));
        after = has_all _ (map sent_as at.sent) (λ d has.
            has_all (After d) queued (search (arith, rules, image_has, is_waiting, waits_after)));
        queued = has_all _ queued (λ a first. has_all (Ahead a) queued (search
            (arith, rules, is_waiting, pairs_right, known.lanes, pair_of_has, pairs_both IsBefore Follows, of_one)));
      }

  -- ## The sixth clause: what waits is not above the floor of its class

  pub below_floors : AreBelowFloors w st
  unfolding state_of
  below_floors = has_all (IsBelowFloor w st) (queued_in st)
      (search (arith, rules, is_waiting, its_output, its_class, all_of_has, HasWaited))

  -- ## The second clause: all lines stand in order. Those of the lists are told list by list, and those of the buffers
  -- buffer by buffer; departures and transfers are told as the run made them.

  out : (j : ℕ) (q : Queued) → Has (buffer f j) q → output_of w.came (named_as q) ≡ j
  out j q has = its_output q (waits_behind j q has).kept ∙ known.agrees.fabric.own j q has

  left_by : (d : Departure) → Has at.sent d → output_of w.came (named_as d.queued) ≡ d.output
  left_by d has = its_output d.queued (has_left_it d has).0 ∙ sym (right_at d has).own

  pub stand_in_order : AreMoved (length w.machines) at.frozen.next at.note → StandInOrder w st
  unfolding state_of
  stand_in_order moved =
      let Timely : Sent → Type 0 = λ d. (d.cell.slot ≤ d.slot) × (d.slot < at.frozen.next) in
      record {
        lists = image_pairs named_as (λ (a b : Named). a.input ≤ b.input) listed (each_listed _
            (search (arith, rules, known.placed)) (search (arith, rules, known.placed)));
        keys = image_pairs named_as
            (λ (a b : Named). a.input ≡ b.input → output_of w.came a ≡ output_of w.came b → is_ahead a b ≡ true)
            listed (each_listed _ (search (arith, rules, its_output, waits_at)) (search (arith, rules, known.placed)));
        buffers = image_pairs named_as (IsBufferedBefore w.came) buffered (pairs_of_all _ at.frozen.buffers
            (search (arith, rules, pairs_in IsBefore, out, known.agrees.fabric.rising)) (search (arith, rules, out)));
        sent = image_pairs sent_as (IsSentBefore w.came) at.sent
            (pairs_in DepartsBefore (λ d e. IsSentBefore w.came (sent_as d) (sent_as e)) at.sent
            (λ d e first second before. rw (left_by d first, left_by e second) before.order) known.ordered);
        sent_times = has_all Timely (map sent_as at.sent) (search (arith, rules, image_has, right_at));
        moved = all_pairs IsTransferBefore at.note moved.pairs;
        moved_times = has_all (λ (t : Transfer). t.slot < at.frozen.next) at.note (search (arith, rules, all_of_has));
      }
