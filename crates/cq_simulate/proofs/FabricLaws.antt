-- What the laws of the fabric say of the run of a fabric that is made for tables: the cells that arrive are for its
-- ports and classes in every slot, and the run begins where nothing waits and no mark is up, where the fabric and the
-- ideal switch agree. With any stable matchings the fabric ends where the ideal switch ends, and has sent and refused
-- what that sends and refuses; its matchings are those of orders by first cells, and no slack is below 0 after
-- arrivals. The matchings of the run of tables are the input-best ones, so it is a run with stable matchings too.
use Rattle.cq_simulate.proofs.Terms.{stable_limited_too, common_steps, rules, ◌≡◌, ◌≤◌, List, Ok, refl, arith, All, length, Arrival, IsTraffic, Machine, Marked, NoLimits, first_slots, slots_of, one_limited_whole, recorded, Fabric, FabricRun, LimitedFabricRun, LimitedRecord, LimitedWholeRun, admissions_in, empty_limited_fabric, slots_in, figures_of, IsInputBest, IsStable, classes_of, ports_of, IsSetup, Tables, machines_of, openings_of, AlwaysHasSlack, AreInputBest, IsFabricRun, IsKeptOf, SendsSlotBySlot, departures_in_run, ideal_departures, ideal_refusals, ran_ideal, slots_ran, slots_of_figures, run_of_whole, ap, limited_found_end, departures_limited, whole_limited_run, LimitedRan, empty_limited, limited_ends, IsEmptyFabric, LimitedEndsAlike, gone_in, AreStable, refused_in_run, counts_limited, refused_counts, slots_fit, ℕ, ◌+◌, [], ◌∷◌, take_all, Option, traffic_is, schedule_of, Cell, IdealState, AreForPorts, admission_for_ports, agrees_of, after_sent, arrived, slack_arrived, orders_are, same_limited_slot, ideal_of, LimitedFabricSlot, Partners, Captured, IsResumed, Kept, Switch, switch_of, Taken, AreTables, AreChosen, CanBeTakenUp, fabric_in, Orders, IsParted, false, cond, map, None, max, fold, is_some, slice_index_or, AllByRecursion, enumerate_from, list_any, cond_both, Queued, Figures, SlotRecord, sends, output_after, figures_after, OutputFigures, figures_fold, recursion_from_All, get_or-replicate, ◌<◌, Some, AllPairs, filter_map, eqb-true, All-from_recursion, Departure, EachPair, each_pair, departure_of, figures_told, frozen_told, IsSentBefore, Sent, State, all_made, all_from_has, all_weaker}
use Rattle.cq_simulate.proofs.OfPackets.{last_departs_without_limits, slots_are}
use Rattle.cq_simulate.specs.Emulation.{EmulatesIdeal}
use Rattle.cq_laws.proofs.LimitedWhole.{Stands, begin}
use Rattle.cq_simulate.proofs.TakenUp.{goes_of, machines_many}
use Rattle.cq_resume.specs.Counted.{sent_by}
use Rattle.cq_simulate.specs.declared.fabric_run.FabricRun as kept

-- First, an output sends one cell a slot at most, and the records of a run are numbered slot by slot. So before each
-- slot an output has sent no more cells than the number of that slot, and no more than the slots so far: a slot in
-- which it sends adds one cell, and then the slots are one more than the number of that slot. What was counted before
-- goes on so, and before the first slot nothing was counted. Nor has an output of a run that goes on from a sound state
-- sent more cells than there were slots: in the state each of them has one `sent` line a slot at most, and the lines
-- stand slot by slot, so from the first of them on, the cells that it sent are no more than the slots up to the last
-- line.

-- ## The records of a run

-- numbered in turn, from this slot on
abbrev pub AreNumbered : ℕ → List SlotRecord → Type 0
AreNumbered n [] = Unit {0}
AreNumbered n (r ∷ rs) = (r.slot ≡ n) × AreNumbered (n + 1) rs

none_sent : (gone : List (Option Queued)) (j : ℕ) → list_any is_some gone ≡ false →
    is_some (slice_index_or gone j None) ≡ false
none_sent gone j none = grind (arith, common_steps)

run_numbered : (ms : List Machine) (slot : ℕ) (traffic : List (List (Option Cell))) (f g : Fabric)
    (rs : List SlotRecord) → FabricRun IsInputBest ms slot traffic f rs g → AreNumbered slot rs
run_numbered ms slot (cells ∷ traffic) f g (r ∷ rs) run = search (rules, run_numbered ms (slot + 1) traffic run.0 g rs)
run_numbered ms slot traffic f g rs run = grind (arith, common_steps)

pub limited_numbered : (limits : List (Option ℕ)) (ms : List Machine) (slot : ℕ) (traffic : List (List (Option Cell)))
    (f g : Marked Fabric) (rs : List LimitedRecord) → LimitedFabricRun IsInputBest limits ms slot traffic f rs g →
    AreNumbered slot (slots_in rs)
limited_numbered limits ms slot traffic f g rs run = grind (arith, common_steps, run_numbered, recorded)

-- ## What was counted before

-- no output sent more cells than there were slots, of which there are no more than the number of the slot that comes
pub record CountsBefore (slot : ℕ) (x : Figures) : Type 0 where
  pub slots : x.slots ≤ slot
  pub each : AllByRecursion (λ y. y.cells ≤ x.slots) x.outputs

-- the slots so far, with this one
abbrev slots_with : SlotRecord → ℕ → ℕ
slots_with r slots = cond (sends r) (max slots (r.slot + 1)) slots

outputs_after : (r : SlotRecord) (slots j : ℕ) (ys : List OutputFigures) → slots ≤ r.slot →
    AllByRecursion (λ y. y.cells ≤ slots) ys →
    AllByRecursion (λ y. y.cells ≤ slots_with r slots) (map (λ at. output_after r at.0 at.1) (enumerate_from j ys))
unfolding output_after
outputs_after r slots j [] low each = tt
outputs_after r slots j (y ∷ ys) low each =
    search (arith, rules, cond_both, none_sent, outputs_after r slots (j + 1) ys low each.1)

counts_after : (r : SlotRecord) (x : Figures) → CountsBefore r.slot x → CountsBefore (r.slot + 1) (figures_after x r)
unfolding figures_after
counts_after r x before = search (arith, rules, outputs_after, cond_both)

pub counts_on : (slot : ℕ) (rs : List SlotRecord) (x : Figures) → AreNumbered slot rs → CountsBefore slot x →
    AllByRecursion (λ y. y.cells ≤ (fold figures_after x rs).slots) (fold figures_after x rs).outputs
counts_on slot [] x numbered before = before.each
counts_on slot (r ∷ rs) x numbered before =
    grind (arith, common_steps, counts_after, counts_on (slot + 1) rs (figures_after x r) numbered.1)

pub once_a_slot : (ms : List Machine) (traffic : List (List (Option Cell))) (f g : Fabric) (rs : List SlotRecord)
    (ports : ℕ) → FabricRun IsInputBest ms 0 traffic f rs g → All (λ x. x.cells ≤ (figures_of ports rs).slots)
    (figures_of ports rs).outputs
once_a_slot ms traffic f g rs ports run =
    grind (arith, common_steps, counts_on, run_numbered, recursion_from_All, get_or-replicate, figures_fold)

-- ## The departures that a state tells

module _ (came : List Arrival) where
  -- the last slot is before each slot that all lines are before
  low : (n : ℕ) (xs : List Sent) → AllByRecursion (λ d. d.slot < n) xs →
      slots_of (filter_map (departure_of came) xs) ≤ n
  low n [] h = let none : 0 ≤ n = omega arith in none
  low n (d ∷ xs) h = grind (arith, common_steps, low n xs h.1)

  -- what departs at output j departs in this slot or later
  abbrev From : ℕ → ℕ → Sent → Type 0
  From j slot d = (x : Departure) → departure_of came d ≡ Some x → x.output ≡ j → slot ≤ x.slot

  abbrev gone : List Sent → List Departure
  gone xs = filter_map (departure_of came) xs

  -- from a slot on, an output sent no more cells than there are slots up to the last line
  few_from : (j : ℕ) (xs : List Sent) → EachPair (IsSentBefore came) xs → (slot : ℕ) → AllByRecursion (From j slot) xs →
      length (sent_by (gone xs) j) + slot ≤ max slot (slots_of (gone xs))
  few_from j [] pairs slot from = let none : 0 + slot ≤ max slot 0 = omega arith in none
  few_from j (d ∷ xs) pairs slot from = search (rules, cond_both, eqb-true, all_weaker, few_from j xs pairs.1)

  few : (j : ℕ) (xs : List Sent) → AllPairs (IsSentBefore came) xs → length (sent_by (gone xs) j) ≤ slots_of (gone xs)
  few j xs pairs = omega (arith, few_from j xs (each_pair _ xs pairs) 0 (all_from_has _ xs (λ d _ x e at. omega arith)))

  -- so it is with the figures that a state tells
  pub counted : (s : State) → AllPairs (IsSentBefore came) s.sent → AllByRecursion (λ d. d.slot < s.head.next) s.sent →
      CountsBefore s.head.next (figures_told came s)
  unfolding figures_told
  counted s pairs times = search (arith, rules, low, all_made, few)

-- ## The run from there on

pub resumed_counts : (t : Tables) (captures : List (List Captured)) (from : Taken) (kept : Kept) → AreTables t →
    length captures ≡ ports_of t.setup → CanBeTakenUp (switch_of t (schedule_of t captures)) from →
    IsResumed (switch_of t (schedule_of t captures)) from kept →
    All (λ x. x.cells ≤ kept.figures.slots) kept.figures.outputs
unfolding frozen_told
resumed_counts t captures from kept are many up resumed =
    search (arith, rules, limited_numbered, take_all, counts_on, counted, recursion_from_All, All-from_recursion)

-- The matchings that a run chooses. Where the fabric agrees with an ideal switch before a slot, no two keys are equal
-- at any moment of it: so both its matchings are chosen of orders by first cells. After the slot both agree again. So
-- it is of a run from the empty fabric on, and of one that goes on from a sound state, whichever stable matchings may
-- be chosen; and after the arrivals of each slot no slack is below 0.

module _ (MayChoose : Orders → Partners → Type 0)
    (is_stable : (o : Orders) (m : Partners) → MayChoose o m → IsStable o m)
    (limits : List (Option ℕ)) (ms : List Machine) (class_count : ℕ) where
  pub each_chosen : (slot : ℕ) (traffic : List (List (Option Cell))) (f g : Marked Fabric) (ideal : Marked IdealState)
      (rs : List LimitedRecord) → Stands limits ms class_count slot traffic f ideal →
      LimitedFabricRun MayChoose limits ms slot traffic f rs g → AreChosen MayChoose rs × AlwaysHasSlack rs
  each_chosen slot [] f g ideal [] s run = (tt, tt)
  each_chosen slot (cells ∷ traffic) f g ideal (r ∷ rs) s (next, is, rest) =
      let step : LimitedFabricSlot IsStable limits ms slot cells f r next = search (arith, rules, is_stable) in
      let one = same_limited_slot limits ms slot class_count cells f next ideal r s.agrees s.come.0 step in
      let come : AreForPorts (length f.state.inputs) class_count r.admission.cells =
      search (arith, rules, admission_for_ports) in
      let before = arrived ms slot class_count _ f.state next.state ideal.state _ s.agrees.states come step.runs in
      let after = after_sent ms slot class_count _ f.state next.state ideal.state _ s.agrees.states come step.runs in
      search (arith, rules, orders_are, each_chosen (slot + 1) traffic next g one.next rs, slack_arrived)
  each_chosen slot traffic f g ideal rs s run = absurd run

  -- ## From the empty fabric on

  module _ (came : List Arrival) (ports : ℕ) (ranks : List (List ℕ)) (slots : ℕ) (rs : List LimitedRecord)
      (end : Marked Fabric) (traffic : IsTraffic ports class_count came) (run : LimitedFabricRun MayChoose limits ms 0
      (first_slots came slots) (empty_limited_fabric ports ranks) rs end) where
    pub first_chosen : AreChosen MayChoose rs × AlwaysHasSlack rs
    first_chosen = each_chosen 0 _ _ end (empty_limited ports ranks) rs (search (arith, rules, begin, slots_fit)) run

-- ## A run in parts

module _ (t : Tables) (captures : List (List Captured)) (are : AreTables t)
    (many : length captures ≡ ports_of t.setup) where
  abbrev w : Switch
  w = switch_of t (schedule_of t captures)

  traffic_there : IsTraffic (length w.machines) (classes_of t.setup) w.came
  traffic_there = rw (machines_many t) (traffic_is t captures are many)

  -- its first slots
  module _ (slots : ℕ) (at : Taken) (parted : IsParted w (openings_of t.setup) slots at) where
    pub parted_best : AreInputBest parted.records
    parted_best = grind (arith, common_steps, first_chosen, traffic_there)

    pub parted_slack : AlwaysHasSlack parted.records
    parted_slack = (first_chosen IsInputBest (λ o m h. h.stable) _ _ _ _ _ _ _ _ _ traffic_there parted.runs).1

  -- and those from a state that was taken up
  module _ (from : Taken) (kept : Kept) (up : CanBeTakenUp w from) (resumed : IsResumed w from kept) where
    resumed_both : AreInputBest resumed.records × AlwaysHasSlack resumed.records
    resumed_both =
        let on = goes_of t (schedule_of t captures) from up (traffic_is t captures are many) in
        each_chosen IsInputBest (λ o m h. h.stable) _ _ (classes_of t.setup) from.frozen.next _ _ resumed.end
        (record { state = ideal_of (fabric_in from.frozen); marks = from.frozen.marks }) _
        (search (arith, rules, agrees_of, slots_fit, traffic_there, on.ports.lists, on.sound))
        (rw (take_all (length resumed.records) resumed.records (omega arith)) at resumed.runs.after)

    pub resumed_best : AreInputBest resumed.records
    resumed_best = resumed_both.0

    pub resumed_slack : AlwaysHasSlack resumed.records
    resumed_slack = resumed_both.1

-- ## With any stable matchings

module _ (t : Tables) (came : List Arrival) (rs : List LimitedRecord) (end : Marked Fabric)
    (traffic : IsTraffic (ports_of t.setup) (classes_of t.setup) came)
    (whole : LimitedWholeRun IsStable t.limits (machines_of t.setup) came (empty_limited_fabric (ports_of t.setup)
    (openings_of t.setup)) rs end) where
  -- the run of the ideal switch ends with that of the fabric
  pub alike : LimitedEndsAlike t.limits (machines_of t.setup) came (empty_limited (ports_of t.setup)
      (openings_of t.setup)) rs end
  alike = limited_ends t.limits _ _ _ _ came rs end (slots_fit _ _ came 0 (length rs) traffic) whole

  pub stable_slots : slots_ran t came ≡ length rs
  stable_slots = limited_found_end t.limits _ _ _ came (length rs) alike.after alike.ends

  -- what it did
  abbrev pub told : LimitedRan
  told = record { admissions = admissions_in rs; gone = gone_in (slots_in rs); after = alike.after }

  pub whole_ran : whole_limited_run t.limits (machines_of t.setup) came (empty_limited (ports_of t.setup)
      (openings_of t.setup)) ≡ Ok told
  unfolding whole_limited_run
  whole_ran = grind (arith, common_steps, stable_slots)

  pub stable_sends : ideal_departures t came ≡ Ok (departures_in_run rs)
  unfolding ideal_departures ran_ideal
  stable_sends = ap departures_limited whole_ran

  pub stable_refuses : ideal_refusals t came ≡ Ok (refused_counts t.limits (refused_in_run rs))
  unfolding ideal_refusals ran_ideal
  stable_refuses = ap (counts_limited t.limits) whole_ran

  stable_run : LimitedFabricRun IsStable t.limits (machines_of t.setup) 0 (first_slots came (length rs))
      (empty_limited_fabric (ports_of t.setup) (openings_of t.setup)) rs end
  stable_run = run_of_whole _ came _ rs (λ f. IsEmptyFabric f.state) end whole

  pub all_stable : AreStable rs
  all_stable = grind (arith, common_steps, first_chosen, stable_run)

  pub stable_slack : AlwaysHasSlack rs
  stable_slack = (first_chosen IsStable (λ o m is. is) _ _ _ came _ _ _ rs end traffic stable_run).1

-- ## The run of tables

module _ (t : Tables) (came : List Arrival) where
  abbrev ms : List Machine
  ms = machines_of t.setup

  -- it begins with no cell, and where it is without limits
  abbrev start : Marked Fabric
  start = empty_limited_fabric (ports_of t.setup) (openings_of t.setup)

  runs : (rs : List LimitedRecord) (is : IsFabricRun t came rs) →
      LimitedFabricRun IsInputBest t.limits ms 0 (first_slots came (length rs)) start rs is.end
  runs rs is = grind (arith, common_steps, run_of_whole)

  pub slots_sent : (rs : List LimitedRecord) → IsFabricRun t came rs →
      (figures_of (ports_of t.setup) (slots_in rs)).slots ≡ slots_of (departures_in_run rs)
  slots_sent rs is = search (rules, slots_of_figures IsInputBest ms, recorded, runs rs is)

  module _ (rs : List LimitedRecord) (traffic : IsTraffic (ports_of t.setup) (classes_of t.setup) came)
      (is : IsFabricRun t came rs) where
    -- with stable matchings it is one too
    stable : LimitedWholeRun IsStable t.limits ms came start rs is.end
    stable = (stable_limited_too ms t.limits).whole came start is.end rs is.runs

    pub as_many_slots : slots_ran t came ≡ length rs
    as_many_slots = stable_slots t came rs is.end traffic stable

    pub best_in_each : AreInputBest rs
    best_in_each = grind (arith, common_steps, first_chosen, runs)

    pub slot_by_slot : SendsSlotBySlot t came rs
    unfolding ran_ideal
    slot_by_slot = rw (whole_ran t came rs is.end traffic stable) (refl, refl)

    pub sends_as_ideal : ideal_departures t came ≡ Ok (departures_in_run rs)
    sends_as_ideal = stable_sends t came rs is.end traffic stable

    pub always_slack : AlwaysHasSlack rs
    always_slack = stable_slack t came rs is.end traffic stable

    pub emulates : EmulatesIdeal t came rs is
    emulates =
        search (rules, slot_by_slot, sends_as_ideal, best_in_each, always_slack, as_many_slots, slots_are, slots_sent)

    -- where no output has a limit a cell departs in the last slot
    pub all_slots_send : NoLimits t.limits → IsSetup t.setup →
        (figures_of (ports_of t.setup) (slots_in rs)).slots ≡ length rs
    all_slots_send none in_range =
        grind (arith, common_steps, slots_sent, last_departs_without_limits, sends_as_ideal, as_many_slots)

  pub kept_refuses : (run : kept.FabricRun) → IsTraffic (ports_of t.setup) (classes_of t.setup) came →
      IsKeptOf t came run → ideal_refusals t came ≡ Ok run.refused.items
  kept_refuses run traffic kept = cc (stable_refuses t came _ _ traffic (stable kept.records traffic kept.is_run))

  pub only_one : (rs ss : List LimitedRecord) → IsFabricRun t came rs → IsFabricRun t came ss → rs ≡ ss
  only_one rs ss one other = grind (arith, common_steps, one_limited_whole)

  -- no output has sent more cells than the run has slots
  pub once_each_slot : (rs : List LimitedRecord) → IsFabricRun t came rs →
      All (λ x. x.cells ≤ (figures_of (ports_of t.setup) (slots_in rs)).slots)
      (figures_of (ports_of t.setup) (slots_in rs)).outputs
  once_each_slot rs is = search (rules, once_a_slot, recorded, runs rs is)
