-- A slot of the engine: that of the fabric below, with the figures that are counted of it. What each phase asks for
-- is shown there, for any stable matchings, and input-best ones are stable. What a slot comes to is one record, from
-- which follows what clauses say of it.
use Rattle.cq_engine.proofs.Terms.{slice_get_within, slice_get-get_or, common_steps, rules, ◌≡◌, ℕ, zero, suc, ◌+◌, ◌-◌, ◌≤◌, eqb, Bool, List, [], ◌∷◌, ◌++◌, length, map, Option, Some, None, refl, arith, if◌then◌else◌, min, max, slice_get, is_some, enumerate_from, list_any, position_or_len, reduce, option_map, same_Some, Cell, Queued, Transfer, InputFigures, OutputFigures, Figures, Machine, fronts, list_of, transfers_of, Partners, IsInputBest, IsStable, Fabric, cushion_of, came_to, SlotRecord, FabricSlot, figures_after, input_after, output_after, either_by, slacks, slack_on_arrival, proposals_in, stable_slot, Queues, fabric_of, length-by_place, at-by_place, HaveArrived, HaveMoved, HaveSent, alike, arrive, come, depart, fill, keyed, recorded, IsInStep, IsSeen, CountsFit, Look, arriving_slack, input_counted, output_counted, slack_seen, SendsAlike, by_arrivals, more_after, LimiterView, HasReleased, HoldsFabric, EngineView, SlotDone, RoomView, Departure, HaveLeft, admitted, admits_are, by_marks, still_holds, ◌∙◌, class_count}
use Rattle.cq_engine.specs.Crossing.{HaveMovedBest}
use Rattle.cq_engine.proofs.Shown.{Taken, seen as shown}
use Rattle.cq_laws.specs.Records.{transfers_in}
use Rattle.cq_engine.specs.declared.measure.Look.TheVariants as look

abbrev bit : Bool → ℕ
bit b = if b then 1 else 0

-- ## Figures

-- the slack of the cell that came, as it is recorded
abbrev slack_of_came : ℕ → Queues → List (List ℕ) → ℕ → Option Queued → Option ℕ
slack_of_came slot q ranks i came = option_map
    (λ c. cushion_of (fabric_of q ranks) c - position_or_len (λ x. eqb x.key.slot slot) (list_of q.inputs i)) came

pub by_place_same : {X : Type 0} (f g : ℕ → X → X) (n : ℕ) (xs : List X) →
    ((i : ℕ) (y : X) (k : ℕ) → k ≡ n + i → slice_get xs i ≡ Some y → f k y ≡ g k y) →
    map (λ at. f at.0 at.1) (enumerate_from n xs) ≡ map (λ at. g at.0 at.1) (enumerate_from n xs)
by_place_same {X} f g n [] same = refl
by_place_same {X} f g n (x ∷ xs) same =
    search (arith, rules, same zero x n, by_place_same f g (n + 1) xs, λ (i : ℕ). same (suc i))

-- each item counts one more at most
count_one : {X : Type 0} (cells : X → ℕ) (after : ℕ → X → X) (moved : List (Option Queued)) (n : ℕ) (xs : List X) →
    ((i : ℕ) (y : X) → cells (after i y) ≡ cells y + bit (is_some (came_to moved i))) →
    ((i : ℕ) (y : X) → slice_get xs i ≡ Some y → cells y ≤ n) → (i : ℕ) (y : X) →
    slice_get (map (λ at. after at.0 at.1) (enumerate_from 0 xs)) i ≡ Some y → cells y ≤ n + 1
count_one cells after moved n xs more fit i y at =
    search (arith, rules, slice_get_within, length-by_place, slice_get-get_or, at-by_place after xs i y, same_Some)

counts_fit : (slot : ℕ) (x : Figures) (r : SlotRecord) → CountsFit slot x → CountsFit (slot + 1) (figures_after x r)
unfolding figures_after input_after output_after
counts_fit slot x r fit =
    let inputs = count_one (λ (y : InputFigures). y.cells) (input_after r) r.came slot x.inputs in
    let outputs = count_one (λ (y : OutputFigures). y.cells) (output_after r) r.gone slot x.outputs in search (rules)

outputs_long : (x : Figures) (r : SlotRecord) → length (figures_after x r).outputs ≡ length x.outputs
unfolding figures_after
outputs_long x r = length-by_place (output_after r) x.outputs

-- ## What is known of a slot

-- what crossed was moved by a stable matching
pub moved_of : {m : Partners} {count : ℕ} {q q' : Queues} → HaveMovedBest m count q q' → HaveMoved m q q'
moved_of crossed = record { stable = crossed.best.stable; moves = crossed.moves }

-- what was counted of a slot, so at each input, in which these cells left, with so many proposals
pub record AreCounted (counted : ℕ → InputFigures → InputFigures) (slot : ℕ) (gone : List (Option Queued))
    (first second : ℕ) (x y : Figures) : Type 0 where
  pub slots : y.slots ≡ (if list_any is_some gone then max x.slots (slot + 1) else x.slots)
  pub proposed : y.proposals ≡ x.proposals + (first + second)
  pub most : y.most ≡ max x.most (max first second)
  pub inputs : y.inputs ≡ map (λ at. counted at.0 at.1) (enumerate_from 0 x.inputs)
  pub outputs : y.outputs ≡ map (λ at. output_counted slot (came_to gone at.0) at.1) (enumerate_from 0 x.outputs)

-- what a slot comes to, with the figures and the limiter after it
pub record Whole (ms : List Machine) (slot : ℕ) (cells : List (Option Cell)) (x y : Figures) (f g : Fabric)
    (judged after : LimiterView) (left : List (Option Queued)) (noted : List Transfer) : Type 0 where
  pub of_slot : SlotRecord
  pub is_slot : FabricSlot IsInputBest ms slot cells f of_slot g
  pub gone : of_slot.gone ≡ left
  pub crossed : transfers_in of_slot ≡ noted
  pub figures : y ≡ figures_after x of_slot
  pub in_step : IsInStep ms (slot + 1) y g
  pub seen : IsSeen look.Arriving y g
  pub released : HasReleased left judged after
  pub holds : HoldsFabric g after

-- it is done, as clauses see it: so the engine was seen before it, and so it is after it
module _ (M : List ℕ → Machine) {fixed states : List (List ℕ)} {q : Queues} {l judged : LimiterView} {x : Figures}
    {next : ℕ} {stopped : Bool} {v : EngineView} (is : shown fixed states q l x next stopped ≡ v) {slot : ℕ}
    {arrivals : List (Option Cell)} {looks : Look} {came : List (Option Queued)} {states1 : List (List ℕ)}
    (known : Taken (map M fixed) slot arrivals q states l looks x came states1 judged) where
  pub slot_done : {fixed' states' : List (List ℕ)} {q' : Queues} {l' : LimiterView} {y : Figures} {next' : ℕ}
      {gone : List (Option Queued)} {noted : List Transfer} {sent sent' : RoomView Departure}
      {note note' : RoomView Transfer} →
      Whole (map M fixed) slot (admitted judged.marks arrivals) x y (fabric_of q states) (fabric_of q' states')
      judged l' gone noted → HaveLeft slot gone sent sent' → note'.items ≡ note.items ++ noted →
      note'.spare + length noted ≡ note.spare →
      SlotDone (map M v.fixed) slot arrivals v (shown fixed' states' q' l' y next' stopped) sent sent' note note'
  slot_done done left items spare =
      rw (← is) (record {
        record_of = record { admission = by_marks judged.marks arrivals; of_slot = done.of_slot };
        is_slot = search (arith, rules, admits_are);
        departed = rw done.gone left.items;
        departed_room = search (arith, rules);
        crossed = rw done.crossed items;
        crossed_room = search (arith, rules);
        counted = done.figures;
        refused = done.released.judges.refused ∙ known.refused;
      })

-- ## A slot

module _ {ms : List Machine} {slot : ℕ} {arrivals : List (Option Cell)} {q0 : Queues} {ranks0 : List (List ℕ)}
    {l : LimiterView} {looks : Look} {x : Figures} {came : List (Option Queued)} {ranks1 : List (List ℕ)}
    {judged : LimiterView} (known : Taken ms slot arrivals q0 ranks0 l looks x came ranks1 judged) {q1 : Queues}
    (arrived : HaveArrived q0 came q1) {m1 : Partners} {p1 : ℕ} {q2 : Queues} (crossed1 : HaveMovedBest m1 p1 q1 q2)
    {ranks2 : List (List ℕ)} {q3 : Queues} (sent : HaveSent ms q1 ranks1 q2 ranks2 q3) {m2 : Partners} {p2 : ℕ}
    {q4 : Queues} (crossed2 : HaveMovedBest m2 p2 q3 q4) where
  -- the cells that are admitted
  abbrev cells : List (Option Cell)
  cells = admitted judged.marks arrivals

  -- what is recorded of the slot
  abbrev of_slot : SlotRecord
  of_slot = recorded known.ranked arrived known.buffer_room (moved_of crossed1) sent (moved_of crossed2)

  is_slot : FabricSlot IsInputBest ms slot cells (fabric_of q0 ranks0) of_slot (fabric_of q4 ranks2)
  is_slot = grind (arith, common_steps, arrive, fill, moved_of, depart)

  stable : FabricSlot IsStable ms slot cells (fabric_of q0 ranks0) of_slot (fabric_of q4 ranks2)
  stable = stable_slot ms slot cells (fabric_of q0 ranks0) (fabric_of q4 ranks2) of_slot is_slot

  -- ## The figures

  told_slack : (i : ℕ) (c : Option Queued) → came_to came i ≡ c →
      slack_of_came slot q1 ranks1 i c ≡ arriving_slack q1 i c
  told_slack i None is = refl
  told_slack i (Some c) is = let at = (keyed known.ranked).slot_is i c is in rw at refl

  slack_told : (i : ℕ) (y : InputFigures) → slice_get x.inputs i ≡ Some y →
      either_by min y.slack (slack_seen looks q1 i (came_to came i))
      ≡ either_by min y.slack (reduce min (slacks (fabric_of q1 ranks1) i))
  unfolding slack_on_arrival slacks
  slack_told i y at =
      let same = by_arrivals ms slot (class_count ms) cells _ _ known.ranked.ideal of_slot known.ranked.agrees
      (come known.ranked) stable x in
      search (rules, told_slack i, same)

  input_told : (i : ℕ) (y : InputFigures) → slice_get x.inputs i ≡ Some y →
      input_counted looks q1 i (came_to came i) y ≡ input_after of_slot i y
  unfolding input_counted input_after
  input_told i y at = grind (arith, common_steps, slack_told)

  counted_inputs : map (λ at. input_counted looks q1 at.0 (came_to came at.0) at.1) (enumerate_from 0 x.inputs)
      ≡ map (λ at. input_after of_slot at.0 at.1) (enumerate_from 0 x.inputs)
  counted_inputs = by_place_same (λ k. input_counted looks q1 k (came_to came k)) (input_after of_slot) 0 x.inputs
      (λ i y k e at. search (arith, rules, input_told))

  same : SendsAlike ms slot cells known.ranked.ideal (fronts q2.buffers) (fabric_of q4 ranks2)
  same = alike known.ranked arrived known.buffer_room (moved_of crossed1) sent (moved_of crossed2)

  seen_after : IsSeen look.Arriving (figures_after x of_slot) (fabric_of q4 ranks2)
  seen_after = search (rules, more_after, come known.ranked, stable)

  in_step : IsInStep ms (slot + 1) (figures_after x of_slot) (fabric_of q4 ranks2)
  in_step = search (arith, rules, same, seen_after, outputs_long, counts_fit)

  pub whole_slot : {after : LimiterView} → HasReleased (fronts q2.buffers) judged after → (y : Figures) →
      AreCounted (λ i. input_counted looks q1 i (came_to came i)) slot (fronts q2.buffers) p1 p2 x y →
      Whole ms slot cells x y (fabric_of q0 ranks0) (fabric_of q4 ranks2) judged after (fronts q2.buffers)
      (transfers_of m1 q1.inputs slot 1 ++ transfers_of m2 q3.inputs slot 2)
  unfolding transfers_in output_counted output_after figures_after proposals_in
  whole_slot releases y counts =
      let holds = still_holds known.ranked _ _ _ _ _ same known.running.holds known.judged releases in
      search (arith, rules, counted_inputs, is_slot, in_step, seen_after)
