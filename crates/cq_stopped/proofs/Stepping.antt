-- One slot of a run that may be stopped. The ideal switch goes on beside the fabric. At each output the cells that
-- come queue up behind those that left and those that wait, and where one leaves it is the first that waits: what left
-- and then what waits is the same list. So what is known before the slot is known after it. And what is within bounds
-- stays so. A list gets one cell more in a slot at most, and a buffer has no more cells than wait in all, which are no
-- more than came. The ranks of what comes and of what leaves fit, so the numbers of the rank states do. A slot that
-- proposes sends a cell, which pays for what it proposes (`slot_proposed` of `cq_simulate`). So a run proposes no more
-- than the cells that came pay for.
use Rattle.cq_stopped.proofs.Terms.{rules, ◌≡◌, ℕ, zero, suc, ◌+◌, ◌<◌, ◌≤◌, List, [], ◌∷◌, ◌++◌, length, Option, Some, None, Ok, ◌∙◌, ◌⊎◌, ⊎_elim, arith, length-append, cases_lt, common_steps, append_assoc, get_or-append-add, get_or-map, get_or_append_left, get_or_past, length-map, ◌↔◌, append-nil, get_or-replicate, length-replicate, AllByRecursion, slice_get, slice_index_or, arrival_at, arriving, arriving_at, Cell, Departure, Queued, admitted_arrives, Came, came_from, present, Served, option_to_list, served, HasWaited, Marked, admission, arriving_from, departures_of, empty_ideal, IdealState, departures_from, departures_in, filled, ideal_slot, put_all, AreForPorts, ranking, CameFor, Keyed, limited_empty_agree, keyed, ports_kept, same_slot, SendsAlike, Fabric, input, empty_fabric, FabricSlot, LimitedFabricSlot, LimitedRecord, slots_in, came_to, gone_in, list_of, IsInputBest, IsStable, all_both, all_weaker, found_at, has_there, Has, all_from_has, all_of_has, has_cases, has_left, has_right, Runs, Switch, fewer, length-filled, rest_of, among_put_all, list_after, put_all_keeps, put_all_new, stable_slot, admission_for_ports, arrivals_for, place_of, came_or_was, was_waiting, marks_kept, IsBefore, EachPair, pairs_cross, pairs_joined, IsFabric, IsCount, get_or-map-range_with_len, length-map-range_with_len, ◌*◌, ◌-◌, fold, max, length-insert, sum_by-append, sum_by-cons, flat_map, sum, buffer, SlotRecord, fabric_held, proposals_in, waiting-empty, all_wait, All-set, All-from_recursion, recursion_from_All, ◌^◌, true, refl, cases_eq, ltb-true, eq-eqb, le-ltb, lt-ltb, get_or-set_other, get_or-set_same, length-set, same_Some, slice_set, only_ok, all_told, Ranking, KeepLaws, Machine, machine_at, after_input_ok, Key, given_floor, all_made, IsRising, never_both, not_before_itself, pair_of_has, pairs_left, pairs_right, rising_put_all}
use Rattle.cq_ideal.proofs.Waiting.{sent_by}
use Rattle.std.proofs.lemmas.List.Sums.{get_or-le-sum_by}
use Rattle.cq_ideal.proofs.FlowRun.{come_count}
use Rattle.cq_simulate.proofs.Steps.{fewer_held, shorter, slot_proposed}
use Rattle.cq_stopped.proofs.Ran.{IsConfigured, DepartsBefore, Follows, IsHeld, IsKeyed, IsOwn, IsSentRight, Known, Lane, came_in, left_at, pool_at, came_of, AreLow, KeepsLow}
use Rattle.cq_stopped.proofs.Lined.{each_departs, left_has, left_more, slot_in_order, pairs_both, pairs_in}
use Rattle.cq_base.specs.Key.{is_before}
use Rattle.cq_ideal.specs.Ranking.{keyed as with_key}

-- First, what the cells of a slot are ranked: each has the level of its class, a rank that fits, and one that is no
-- less than the floor that its class had before the slot, since no rank that is given lowers a floor. And how they
-- queue up at an output. A cell that comes has another name than each that came before it, of its flow each came in an
-- earlier slot, and each of its class that waits has the lesser key: its level and no greater rank. So of two in the
-- order of keys the one ahead goes before the other, as what left the output goes before both.

module _ (ms : List Machine) (slot : ℕ) where
  -- the rank states after a cell got its rank
  abbrev given : List (List ℕ) → Cell → List ℕ
  given ranks cell = (machine_at ms cell.output).given (slice_index_or ranks cell.output []) cell.class

  abbrev after : List (List ℕ) → Cell → List (List ℕ)
  after ranks cell = slice_set ranks cell.output (given ranks cell)

  -- the cell is for an output that there is, and of one of its classes
  pub record IsKnown (many : ℕ) (cell : Cell) : Type 0 where
    pub inside : cell.output < many
    pub class : cell.class < (machine_at ms cell.output).classes

  -- what a cell that came got
  pub record IsRanked (ranks : List (List ℕ)) (q : Queued) : Type 0 where
    pub level : q.key.level ≡ (machine_at ms q.cell.output).level q.cell.class
    pub rank : q.key.rank < 2 ^ 128
    pub above : (machine_at ms q.cell.output).floor (slice_index_or ranks q.cell.output []) q.cell.class ≤ q.key.rank

  module _ (ranks : List (List ℕ)) (keep : KeepLaws ms ranks) (cell : Cell) (known : IsKnown (length ranks) cell) where
    still_keep : KeepLaws ms (after ranks cell)
    still_keep = grind (arith, common_steps, length-set, keep.sized, get_or-set_same, get_or-set_other, cases_eq)

  -- what a cell at an input gets
  abbrev one_at : ℕ → List (List ℕ) → Cell → Queued
  one_at i ranks cell =
      let m = machine_at ms cell.output in
      with_key cell (m.level cell.class) (m.ranked (slice_index_or ranks cell.output []) cell.class) slot i

  -- its rank fits, and behind it come the other inputs
  one_behind : (i : ℕ) (cell : Cell) (cells : List (Option Cell)) (ranks : List (List ℕ)) (r : Ranking) →
      ranking ms slot i (Some cell ∷ cells) ranks ≡ Ok r →
      ((one_at i ranks cell).key.rank < 2 ^ 128) × (s : Ranking)
      × (ranking ms slot (i + 1) cells (after ranks cell) ≡ Ok s)
      × (record { came = Some (one_at i ranks cell) ∷ s.came; ranks = s.ranks } ≡ r)
  one_behind i cell cells ranks r h = grind (arith, common_steps, ltb-true, after_input_ok)

  pub ranked_from : (i : ℕ) (cells : List (Option Cell)) (ranks : List (List ℕ)) (r : Ranking) → KeepLaws ms ranks →
      ((k : ℕ) (cell : Cell) → arrival_at cells k ≡ Some cell → IsKnown (length ranks) cell) →
      ranking ms slot i cells ranks ≡ Ok r → (k : ℕ) (q : Queued) → came_to r.came k ≡ Some q → IsRanked ranks q
  ranked_from i [] ranks r keep known h k q at = grind (arith, common_steps, only_ok)
  ranked_from i (None ∷ cells) ranks r keep known h zero q at = grind (arith, common_steps, after_input_ok)
  ranked_from i (None ∷ cells) ranks r keep known h (suc k) q at =
      let b = after_input_ok None (ranking ms slot (i + 1) cells ranks) r h in
      ranked_from (i + 1) cells ranks b.0 keep (λ l. known (suc l)) b.1 k q (rw (← b.2) at at)
  ranked_from i (Some cell ∷ cells) ranks r keep known h zero q at =
      let here = known zero cell refl in search (arith, rules, one_behind, same_Some, keep.laws, keep.sized)
  ranked_from i (Some cell ∷ cells) ranks r keep known h (suc k) q at =
      let here = known zero cell refl in
      let b = one_behind i cell cells ranks r h in
      let at' = rw (← b.3) at at in
      let same = length-set ranks cell.output (given ranks cell) in
      let it = ranked_from (i + 1) cells (after ranks cell) b.1 (still_keep ranks keep cell here)
      (λ l other is. rw same (known (suc l) other is)) b.2 k q at' in
      let c = came_from ms slot (i + 1) cells (after ranks cell) b.1 b.2 k q at' in
      search (arith, rules, get_or-set_same, given_floor, keep.sized, get_or-set_other, cases_eq, known (suc k) q.cell)

-- ## The numbers of the rank states fit 128 bits, since the run would stop at the first rank that does not

module _ (ms : List Machine) (keeps : (j : ℕ) → KeepsLow (machine_at ms j)) where
  -- the rank states stay low
  pub ranked_low : (slot i : ℕ) (cells : List (Option Cell)) (states : List (List ℕ)) (r : Ranking) →
      AllByRecursion AreLow states → ranking ms slot i cells states ≡ Ok r → AllByRecursion AreLow r.ranks
  ranked_low slot i [] states r all h = grind (arith, common_steps, only_ok)
  ranked_low slot i (cell ∷ cells) states r all h =
      let put = recursion_from_All AreLow in
      search (rules, ltb-true, after_input_ok, put, All-set, All-from_recursion, ranked_low slot (i + 1) cells)

  pub told_low : (gone : List (Option Queued)) (states : List (List ℕ)) → AllByRecursion AreLow states →
      ((j : ℕ) (q : Queued) → slice_index_or gone j None ≡ Some q → q.key.rank < 2 ^ 128) →
      AllByRecursion AreLow (all_told ms gone states)
  unfolding all_told
  told_low gone states all sent = all_made AreLow _ 0 (length states) (search (arith, rules, All-from_recursion, sent))

-- ## A lesser key

-- of one level, with no greater rank and of an earlier slot
pub is_less : (a b : Key) → a.level ≡ b.level → a.rank ≤ b.rank → a.slot < b.slot → is_before a b ≡ true
unfolding is_before
is_less a b level rank slot = search (arith, rules, lt-ltb, le-ltb, eq-eqb, cases_lt)

-- ## What comes goes behind what was there

module _ (j slot : ℕ) (came : List (Option Queued)) (left waiting : List Queued)
    (before : (x : Queued) → Has (left ++ waiting) x → x.key.slot < slot)
    (come : (k : ℕ) (q : Queued) → came_to came k ≡ Some q → (q.key.slot ≡ slot) × (q.key.input ≡ k))
    (rising : IsRising waiting) (pairs : EachPair Follows (left ++ waiting))
    (less : (x q : Queued) → Has waiting x → CameFor came j q → x.cell.class ≡ q.cell.class → IsBefore x q) where
  old_first : (x q : Queued) → Has (left ++ waiting) x → CameFor came j q → Follows x q
  old_first x q has new = grind (arith, before x has, come new.0 q new.1)

  -- of two in the order of keys the first goes ahead
  goes_ahead : (x q : Queued) → Has waiting x ⊎ CameFor came j x → Has waiting q ⊎ CameFor came j q → IsBefore x q →
      Follows x q
  goes_ahead x q one two ahead =
      let both = pairs_both IsBefore Follows waiting rising (pairs_right Follows left waiting pairs) in
      let pair = pair_of_has _ waiting x q both in
      search (arith, rules, pair, before, has_right left waiting, come, less q x, never_both, not_before_itself)

  rises : IsRising (put_all j came waiting)
  rises = rising_put_all j came waiting rising (search (arith, rules, before, has_right left waiting, come))
      (search (arith, rules, come))

  pub pairs_next : EachPair Follows (left ++ put_all j came waiting)
  pairs_next =
      let new = among_put_all j came waiting in
      let later = pairs_in IsBefore Follows _ (search (rules, goes_ahead, new)) rises in
      search (rules, pairs_joined Follows left, later, pairs_left, new, pairs_cross Follows, pairs, old_first, has_left)

-- what holds of each cell at its place holds of those that are present
all_present : (P : Cell → Type 0) (cells : List (Option Cell)) →
    ((k : ℕ) (cell : Cell) → arrival_at cells k ≡ Some cell → P cell) → AllByRecursion P (present cells)
all_present P [] each = tt
all_present P (o ∷ cells) each = grind (arith, common_steps, all_present P cells (λ k. each (suc k)), each zero)

-- what came up to a slot, and what came in it
came_then : (cs : List (List (Option Queued))) (c : List (Option Queued)) (t i : ℕ) (q : Queued) →
    (came_in (cs ++ c ∷ []) t i ≡ Some q) ↔ ((came_in cs t i ≡ Some q) ⊎ ((length cs ≡ t) × (came_to c i ≡ Some q)))
came_then cs c t i q = grind (arith, common_steps, get_or_append_left, get_or-append-add, get_or_past, cases_lt t)

-- ## What waits

-- how many cells wait in a fabric
abbrev pub waits : Fabric → ℕ
waits f = sum (fabric_held f)

pub none_first : (ports : ℕ) (ranks : List (List ℕ)) → waits (empty_fabric ports ranks) ≡ 0
none_first ports ranks = let agree = (limited_empty_agree ports ranks).states in omega (arith, all_wait, waiting-empty)

-- no buffer has more
buffer_few : (f : Fabric) → IsFabric f → (j : ℕ) → length (buffer f j) ≤ waits f
unfolding fabric_held
buffer_few f is j =
    let held = get_or-le-sum_by (λ (n : ℕ). n) (fabric_held f) j 0 in
    grind (arith, common_steps, held, get_or-map-range_with_len, length-map-range_with_len, get_or_past, cases_lt)

-- what is recorded of a slot
pub record IsRecordedWithin (r : SlotRecord) : Type 0 where
  pub longest : (i : ℕ) → IsCount (length (input r.arrived i))
  pub cushions : (j : ℕ) → IsCount (length (buffer r.arrived j))

-- the greatest is no more than all together
pub most_of_all : (a : ℕ) (xs : List ℕ) → fold max a xs ≤ a + sum xs
most_of_all a [] = omega arith
most_of_all a (x ∷ xs) = grind (arith, common_steps, sum_by-cons, most_of_all (max a x) xs)

-- ## A slot

module _ (w : Switch) (ranks : List (List ℕ)) (configured : IsConfigured w ranks) where
  module _ {n : ℕ} {f g : Marked Fabric} {r : LimitedRecord} {ideal : IdealState} {cs : List (List (Option Queued))}
      {sent : List Departure} (known : Known w n f.state ideal cs sent)
      (step : LimitedFabricSlot IsInputBest w.limits w.machines n (arriving w.came n) f r g) where
    -- ## What comes

    abbrev came : List (Option Queued)
    came = r.of_slot.came

    come : AreForPorts (length f.state.inputs) w.classes r.admission.cells
    come = grind (arith, common_steps, admission_for_ports, arrivals_for)

    arrives : (i : ℕ) (cell : Cell) → arrival_at r.admission.cells i ≡ Some cell → arriving_at w.came n i ≡ Some cell
    unfolding admission
    arrives i cell at = grind (arith, common_steps, place_of, admitted_arrives)

    stable : FabricSlot IsStable w.machines n r.admission.cells f.state r.of_slot g.state
    stable = stable_slot w.machines n r.admission.cells f.state g.state r.of_slot step.runs

    alike : SendsAlike w.machines n r.admission.cells ideal r.of_slot.gone g.state
    alike = grind (arith, common_steps, same_slot, come, stable)

    abbrev next : IdealState
    next = alike.next

    its_keys : Keyed n (length f.state.inputs) came
    its_keys = grind (arith, common_steps, keyed, come, stable)

    as_ranked : ranking w.machines n 0 r.admission.cells ideal.ranks
        ≡ Ok (record { came = came; ranks = r.of_slot.arrived.ranks })
    as_ranked = grind (arith, common_steps)

    many : length ideal.lists ≡ length w.machines
    many = known.agrees.ports ∙ known.ports

    its_known : (k : ℕ) (cell : Cell) → arrival_at r.admission.cells k ≡ Some cell →
        IsKnown w.machines n (length ideal.ranks) cell
    its_known k cell at = grind (arith, common_steps, come.outputs, come.classes, configured.same)

    its_came : (k : ℕ) (q : Queued) → came_to came k ≡ Some q → Came n 0 r.admission.cells k q
    its_came = came_from w.machines n 0 r.admission.cells ideal.ranks _ as_ranked

    its_rank : (k : ℕ) (q : Queued) → came_to came k ≡ Some q → IsRanked w.machines n ideal.ranks q
    its_rank = ranked_from w.machines n 0 r.admission.cells ideal.ranks _ (search (arith, rules)) its_known as_ranked

    is_keyed : (k : ℕ) (q : Queued) → came_to came k ≡ Some q → IsKeyed w q
    is_keyed k q at =
        let c = its_came k q at in
        let arrive = arrives k q.cell c.cell_is in
        search (arith, rules, come.inputs, come.outputs, come.classes, its_rank k q, found_at w.came n k q.cell)

    -- ## What the ideal switch does

    abbrev lists : List (List Queued)
    lists = filled came ideal.lists

    made_is : sent_by w.machines ideal (record { came = came; ranks = r.of_slot.arrived.ranks })
        ≡ record { gone = r.of_slot.gone; after = next }
    unfolding ideal_slot
    made_is = grind (arith, common_steps, as_ranked)

    -- what left an output, what waits for it, and this with what comes for it
    abbrev left : ℕ → List Queued
    left j = left_at j sent

    abbrev waiting : ℕ → List Queued
    waiting j = list_of ideal.lists j

    abbrev full : ℕ → List Queued
    full j = put_all j came (waiting j)

    full_is : (j : ℕ) → list_of lists j ≡ full j
    full_is j = list_after came ideal.lists (λ k q at. let lt = its_keys.outputs k q at in omega arith) j

    lists_many : length lists ≡ length w.machines
    lists_many = length-filled came ideal.lists ∙ many

    gone_is : (j : ℕ) → j < length w.machines → slice_index_or r.of_slot.gone j None ≡ slice_get (full j) 0
    gone_is j inside =
        let first = get_or-map (λ (zs : List Queued). slice_get zs 0) lists j [] None in
        grind (arith, common_steps, first, lists_many, made_is, full_is)

    abbrev sent_next : List Departure
    sent_next = sent ++ departures_in n r.of_slot.gone

    -- what left and what waits
    pool_is : (j : ℕ) → j < length w.machines → pool_at j sent_next next ≡ left j ++ full j
    pool_is j inside =
        let more = left_more j n sent r.of_slot.gone in
        grind (arith, common_steps, more, option_to_list, gone_is, made_is, rest_of, full_is, append_assoc)

    -- it did so before the slot, or came
    was_or_new : (j : ℕ) (q : Queued) → Has (left j ++ full j) q → Has (left j ++ waiting j) q ⊎ CameFor came j q
    was_or_new j q has = grind (arith, common_steps, has_cases, has_left, has_right, among_put_all)

    pool_keeps : (j : ℕ) (q : Queued) → Has (left j ++ waiting j) q → Has (left j ++ full j) q
    pool_keeps j q has = grind (arith, common_steps, has_cases, has_left, has_right, put_all_keeps)

    -- ## At each output

    module _ (j : ℕ) (inside : j < length w.machines) where
      lane : Lane w n j (slice_index_or ideal.ranks j []) (left j) (waiting j)
      lane = known.lanes j inside

      new_own : (q : Queued) → CameFor came j q → IsOwn w (n + 1) j q
      new_own q new = let c = its_came new.0 q new.1 in let keyed = is_keyed new.0 q new.1 in search (arith, rules)

      own_all : AllByRecursion (IsOwn w (n + 1) j) (left j ++ full j)
      own_all = all_from_has _ _
          (λ q has. grind (arith, common_steps, was_or_new j q, new_own q, all_of_has (IsOwn w n j)))

      old_less : (x q : Queued) → Has (waiting j) x → CameFor came j q → x.cell.class ≡ q.cell.class → IsBefore x q
      old_less x q has new class =
          search (arith, rules, its_rank, its_came, is_less, all_of_has, HasWaited, lane.stands.waited)

      its_served : Served w.machines j n (configured.laws j inside) 0 0 (present r.admission.cells) ideal
          (record { gone = r.of_slot.gone; after = next })
      its_served = served w.machines j n (configured.laws j inside) 0 0 r.admission.cells ideal _ alike.sent
          (omega arith) (omega arith) lane.stands (all_present _ r.admission.cells (search (arith, rules, its_known)))

      next_pairs : EachPair Follows (left j ++ full j)
      next_pairs = pairs_next j n came (left j) (waiting j) (search (rules, all_of_has, IsOwn, lane.own))
          (search (arith, rules, its_came)) (known.agrees.rising j) lane.pairs old_less

      next_lane : Lane w (n + 1) j (slice_index_or next.ranks j []) (left_at j sent_next) (list_of next.lists j)
      next_lane = search (rules, pool_is j inside, its_served, own_all, next_pairs)

    -- ## Departures

    -- what leaves now waited at its output
    first_own : (j : ℕ) (q : Queued) → slice_index_or r.of_slot.gone j None ≡ Some q →
        (j < length w.machines) × IsOwn w (n + 1) j q × Has (full j) q
    first_own j q at =
        let there = has_right (left j) (full j) q in
        grind (arith, common_steps, many, get_or_past, gone_is, has_there, there, own_all, all_of_has, cases_lt)

    abbrev LeavesNow : Departure → Type 0
    LeavesNow d = IsSentRight w (n + 1) d × (d.slot ≡ n) × Has (full d.output) d.queued

    leave_now : AllByRecursion LeavesNow (departures_from n 0 r.of_slot.gone)
    leave_now = each_departs n LeavesNow r.of_slot.gone 0
        (λ k j q is at. let own = first_own k q at in grind (arith, common_steps, own))

    departed_next : AllByRecursion (IsSentRight w (n + 1)) sent_next
    unfolding departures_in
    departed_next = search (arith, rules, all_both, all_weaker, IsSentRight, leave_now)

    ordered_next : EachPair DepartsBefore sent_next
    unfolding departures_in
    ordered_next = pairs_joined DepartsBefore sent (departures_from n 0 r.of_slot.gone) known.ordered
        (slot_in_order n 0 r.of_slot.gone) (λ d e first second.
        let cross = pairs_cross Follows (left e.output) (full e.output) d.queued e.queued in
        search (arith, rules, leave_now, cross, next_pairs, left_has, all_of_has, known.departed))

    -- ## What came

    -- a cell that is known by its slot and its input
    held_at : (t i : ℕ) (q : Queued) → q.key.slot ≡ t → q.key.input ≡ i → q.cell.output < length w.machines →
        Has (left q.cell.output ++ full q.cell.output) q → IsHeld next sent_next t i q
    held_at t i q slot input inside there = grind (arith, common_steps, made_is, length-map, lists_many, pool_is)

    -- no more cells come in than arrive
    few_come : length (present r.admission.cells) ≤ length (present (arriving w.came n))
    unfolding admission
    few_come = search (arith, rules, present, fewer)

    -- ## Together

    known_next : Known w (n + 1) g.state next (cs ++ came ∷ []) sent_next
    known_next = record {
      agrees = alike.agrees;
      ports = search (arith, rules, ports_kept, come, stable);
      states = (its_served 0 (omega arith)).states ∙ known.states;
      lanes = next_lane;
      placed =
          let before = was_waiting step.runs.fill.moves in
          search (arith, rules, was_waiting step.runs.finish.moves, before, came_or_was, its_keys, known.placed);
      departed = departed_next;
      ordered = ordered_next;
      short =
          let first = shorter r.of_slot.first r.of_slot.arrived r.of_slot.filled step.runs.fill in
          search (arith, rules, length-insert, first, shorter r.of_slot.second r.of_slot.sent g.state);
      low = rw (step.runs.finish.ranks, step.runs.depart.ranks, step.runs.fill.ranks)
          (told_low w.machines configured.low r.of_slot.gone _ (ranked_low w.machines configured.low n 0
          r.admission.cells f.state.ranks _ known.low step.runs.arrive.ranked)
          (λ j q left. (first_own j q left).1.keyed.rank));
      long = grind (arith, common_steps, length-append);
      origin = λ j q inside has. (came_then cs came q.key.slot q.key.input q).1
          (search (arith, rules, its_came, was_or_new j q, pool_is j inside));
      held = λ t i q is. ⊎_elim (search (arith, rules, known.held, many, held_at, pool_keeps q.cell.output q))
          (λ now. search (arith, rules, its_came i q now.1, its_keys.outputs i q, held_at, has_right, put_all_new))
          ((came_then cs came t i q).0 is);
    }

  -- ## A run of a configured switch up to a slot: what is known of the empty fabric is known after each slot

  -- what is known at its end, and what is within bounds
  pub record Ended (a m end : ℕ) (f : Marked Fabric) (rs : List LimitedRecord) (g : Marked Fabric)
      (cs : List (List (Option Queued))) (sent : List Departure) : Type 0 where
    pub ideal : IdealState
    pub known : Known w end g.state ideal cs sent
    pub records : AllByRecursion IsRecordedWithin (slots_in rs)
    pub proposed : sum (flat_map proposals_in (slots_in rs)) + 8192 * waits g.state
        ≤ 8192 * (waits f.state + come_count (arriving_from w.came a m))
    pub marks : length g.marks ≡ length f.marks

  pub run_known : (m a end : ℕ) (f g : Marked Fabric) (rs : List LimitedRecord) (ideal : IdealState)
      (cs : List (List (Option Queued))) (sent : List Departure) → Known w a f.state ideal cs sent → IsCount end →
      IsCount (waits f.state + come_count (arriving_from w.came a m)) → end ≡ a + m →
      Runs w a (arriving_from w.came a m) f rs g →
      Ended a m end f rs g (cs ++ came_of rs) (sent ++ departures_of a (gone_in (slots_in rs)))
  unfolding departures_of arriving_from come_count admission
  run_known zero a end f g [] ideal cs sent known low all is run = grind (arith, common_steps, append-nil)
  run_known (suc m) a end f g (r ∷ rs) ideal cs sent known low all is run =
      let few = few_come known run.1 in
      let less = fewer_held run.1.runs known.agrees (come known run.1) in
      let next = known_next known run.1 in
      let rest = run_known m (a + 1) end run.0 g rs _ _ _ next low (omega arith) (omega arith) run.2 in
      let made = slot_proposed run.1.runs known.agrees (come known run.1) (omega arith) in
      search (arith, rules, append_assoc, rest, length-insert, buffer_few, marks_kept, sum_by-append)
  run_known _ a end f g _ ideal cs sent known low all is run = absurd run

  -- nothing is known of the empty fabric but that
  pub known_first : Known w 0 (empty_fabric (length w.machines) ranks) (empty_ideal (length w.machines) ranks) [] []
  known_first = search (arith, rules, configured, length-replicate, Lane, get_or-replicate, get_or_past, cases_lt)
