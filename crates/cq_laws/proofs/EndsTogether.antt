-- The fabric and the ideal switch end after the same slot. In the same slots both runs agree, also after fewer slots,
-- and states that agree are empty together. So the least number of slots after which the one is over is that of the
-- other, with limits and without. In the last slot a cell departs, as it does in the ideal switch, so the figures tell
-- the number of slots. And what goes on behind the end is quiet slots.
use Rattle.cq_laws.proofs.Terms.{cases_lt, ⊎_elim, common_steps, rules, ◌≡◌, ℕ, ◌+◌, ◌-◌, ◌≤◌, cond, List, [], ◌∷◌, length, take, drop, map, Option, Err, refl, sym, arith, filter, fold, is_some, max, AllByRecursion, list_any, cases_Bool, cond_both, length-take-le, take-append-drop, take_all, append-nil, Cell, Queued, TagFault, Machine, IsForSwitch, AreForPorts, IsInputBest, IsStable, Partners, EndsAlike, RunsAlike, Fabric, IsEmptyFabric, empty_fabric, BeginsWhole, FabricRun, FabricStops, WholeRun, FabricSlot, SlotRecord, idled_for, quiet_slots, IdealAfter, IdealEnds, arriving_from, first_slots, slots_of, slots_of_run, whole_ideal_run, IsEmptyIdeal, departures_of, empty_ideal, departures_from, departures_in, ends, fewer_slots, found_end, not_more, whole_fault, arriving_length, quiet_from, Orders, figures_of, sends, fold-append, all_slots, slots_of-append, last_departs, gone_in, IdealState, ◌++◌, ap, ◌∙◌, Arrival, Marked, LimitedEndsAlike, LimitedFabricSlot, LimitedRecord, LimitedWholeRun, empty_limited_fabric, empty_limited, LimitedIdealAfter}
use Rattle.cq_base.specs.Arriving.{Arrival, enough, traffic_of}
use Rattle.cq_laws.proofs.AddingUp.{figures_fold, fold-max}
use Rattle.cq_laws.proofs.InputBest.{stable_too}
use Rattle.cq_laws.proofs.Parted.{departures_on, transfers_both, ends_with, Reach, fewer_fit, reach, run_length, run_of_whole, one_whole}
use Rattle.cq_laws.proofs.OneRun.{only_run, only_limited_run}
use Rattle.cq_laws.proofs.QuietSlots.{adds_nothing, empty_is, quiet_run}
use Rattle.cq_laws.proofs.WholeRuns.{empty_agree, empty_together, run_beside, same_stop, traffic_for_empty}
use Rattle.cq_laws.proofs.LimitedWhole.{limited_beside}

-- ## The same end

module _ (ms : List Machine) (ports class_count : ℕ) (ranks : List (List ℕ)) (came : List Arrival) where
  pub end_alike : (rs : List SlotRecord) (g : Fabric) →
      AllByRecursion (AreForPorts ports class_count) (first_slots came (length rs)) →
      WholeRun IsStable ms came (empty_fabric ports ranks) rs g → EndsAlike ms came (empty_ideal ports ranks) rs g
  unfolding whole_ideal_run
  end_alike rs g fit w =
      let start = empty_fabric ports ranks in
      let beside = λ (m : ℕ). run_beside ports ranks ms class_count (first_slots came m) in
      let b = beside (length rs) rs g fit (run_of_whole (FabricSlot IsStable ms) came start rs IsEmptyFabric g w) in
      let ends = ends_with (FabricSlot IsStable ms) came start rs IsEmptyFabric
      (IdealAfter ms came (empty_ideal ports ranks)) IsEmptyIdeal g b.after w (rw b.ran)
      ((empty_together _ g b.after b.agrees).0 w.empty) (λ m u v lt late x at over.
      let c = beside m _ v (fewer_fit (AreForPorts ports class_count) came m (length rs) (omega arith) fit) x in
      grind (arith, common_steps, empty_together _ v c.after c.agrees)) in
      let long = arriving_length came 0 (length rs) in search (arith, rules, found_end, ends)

  pub stop_alike : (n : ℕ) (rs : List SlotRecord) (fault : TagFault) →
      AllByRecursion (AreForPorts ports class_count) (first_slots came n) →
      FabricStops IsStable ms 0 (first_slots came n) (empty_fabric ports ranks) rs fault →
      whole_ideal_run ms came (empty_ideal ports ranks) ≡ Err fault
  stop_alike n rs fault fit stop =
      search (rules, whole_fault ms ports ranks came n, empty_agree, traffic_for_empty, same_stop ms class_count 0)

-- ## The number of slots

-- in a slot in which an output sends
pub sent_slots : (slot j : ℕ) (gone : List (Option Queued)) →
    slots_of (departures_from slot j gone) ≡ cond (list_any is_some gone) (slot + 1) 0
sent_slots slot j [] = refl
sent_slots slot j (o ∷ gone) = grind (arith, common_steps, cases_Bool, sent_slots slot (j + 1) gone)

slots_add : (MayChoose : Orders → Partners → Type 0) (ms : List Machine) (slot : ℕ)
    (traffic : List (List (Option Cell))) (f g : Fabric) (rs : List SlotRecord) →
    FabricRun MayChoose ms slot traffic f rs g →
    fold max 0 (map (λ r. r.slot + 1) (filter sends rs)) ≡ slots_of (departures_of slot (gone_in rs))
unfolding departures_of departures_in
slots_add MayChoose ms slot (cells ∷ traffic) f g (r ∷ rs) run =
    let rest = slots_add MayChoose ms (slot + 1) traffic run.0 g rs run.2 in
    grind (arith, cond_both, fold-max, cases_Bool (sends r), sent_slots slot 0 r.gone, slots_of-append)
slots_add MayChoose ms slot traffic f g rs run = grind (arith, common_steps)

-- so the figures tell the slot of the last departure
pub slots_of_figures : (MayChoose : Orders → Partners → Type 0) (ms : List Machine) (ports : ℕ)
    (traffic : List (List (Option Cell))) (f g : Fabric) (rs : List SlotRecord) →
    FabricRun MayChoose ms 0 traffic f rs g → (figures_of ports rs).slots ≡ slots_of (departures_of 0 (gone_in rs))
unfolding figures_of
slots_of_figures MayChoose ms ports traffic f g rs run = slots_add MayChoose ms 0 traffic f g rs run

pub slots_told : (ms : List Machine) (ports class_count : ℕ) (ranks : List (List ℕ)) (came : List Arrival)
    (rs : List SlotRecord) (g : Fabric) →
    AllByRecursion (AreForPorts ports class_count) (first_slots came (length rs)) →
    AllByRecursion (IsForSwitch ms ports) came → WholeRun IsStable ms came (empty_fabric ports ranks) rs g →
    (figures_of ports rs).slots ≡ length rs
slots_told ms ports class_count ranks came rs g fit all w =
    let alike = end_alike ms ports class_count ranks came rs g fit w in
    let run = run_of_whole (FabricSlot IsStable ms) came (empty_fabric ports ranks) rs IsEmptyFabric g w in
    let last = last_departs ms ports ranks came all _ alike.ran in search (arith, rules, slots_of_figures)

-- ## Slots behind the end

module _ (ms : List Machine) (ports class_count : ℕ) (ranks : List (List ℕ)) (came : List Arrival)
    (rs : List SlotRecord) (g : Fabric) (fit : AllByRecursion (AreForPorts ports class_count) (traffic_of came))
    (run_all : FabricRun IsInputBest ms 0 (traffic_of came) (empty_fabric ports ranks) rs g) where
  best_run : FabricRun IsInputBest ms 0 (first_slots came (enough came)) (empty_fabric ports ranks) rs g
  best_run = rw (all_slots came) run_all

  fewer : (m : ℕ) (s : Fabric) (ss : List SlotRecord) → m ≤ enough came →
      FabricRun IsInputBest ms 0 (first_slots came m) (empty_fabric ports ranks) ss s →
      RunsAlike ms 0 (first_slots came m) (empty_ideal ports ranks) ss s
  fewer m s ss le x = run_beside ports ranks ms class_count _ ss s (search (arith, rules, fewer_fit, all_slots))
      ((stable_too ms).run 0 (first_slots came m) (empty_fabric ports ranks) s ss x)

  -- the end of the ideal switch
  abbrev n : ℕ
  n = slots_of_run ms came (empty_ideal ports ranks)

  done : (s : IdealState) × IdealEnds ms came (empty_ideal ports ranks) n s
  unfolding whole_ideal_run
  done =
      let b = fewer (enough came) g rs (omega arith) best_run in
      search (rules, fewer_slots ms ports ranks came n (enough came) _ (not_more ms ports ranks came) b.ran, ends)

  at_end : Reach (FabricSlot IsInputBest ms) came (empty_fabric ports ranks) rs n (enough came) g
  at_end = grind (arith, common_steps, reach, not_more, best_run)

  cut : length (take n rs) ≡ n
  cut = grind (arith, not_more, run_length, best_run, arriving_length, length-take-le)

  empty_end : IsEmptyFabric at_end.state
  empty_end =
      let b = fewer n at_end.state (take n rs) (not_more ms ports ranks came) at_end.after in
      grind (arith, common_steps, empty_together _ at_end.state b.after b.agrees, done)

  is_whole : WholeRun IsInputBest ms came (empty_fabric ports ranks) (take n rs) at_end.state
  is_whole =
      let few = not_more ms ports ranks came in
      record {
        after = search (arith, rules, cut, take_all);
        all_came = rw cut done.1.all_came;
        empty = empty_end;
        first = λ m u at late over. rw cut (⊎_elim (λ lt. let b = fewer m u (take m (take n rs)) (omega arith) at in
            search (rules, done.1.first m b.after, empty_together _ u b.after b.agrees)) (λ ge. ge) (cases_lt m n));
      }

  -- what follows are quiet slots
  abbrev idle : List SlotRecord
  idle = quiet_slots ms (enough came - n) n (length at_end.state.inputs) at_end.state.ranks

  quiet : drop n rs ≡ idle
  quiet =
      let b = fewer n at_end.state (take n rs) (not_more ms ports ranks came) at_end.after in
      let f = at_end.state in
      let is : f ≡ empty_fabric (length f.inputs) f.ranks = empty_is f empty_end b.agrees.fabric.square in
      let end = empty_fabric (length f.inputs) (idled_for ms (enough came - n) (length f.inputs) f.ranks) in
      let run : FabricRun IsInputBest ms n (arriving_from came n (enough came - n)) f idle end =
      search (arith, rules, quiet_from came, done, is, quiet_run ms (enough came - n) n (length f.inputs) f.ranks) in
      ((only_run ms).run n (arriving_from came n (enough came - n)) f g end (drop n rs) idle at_end.rest run).0

  pub begins_whole : BeginsWhole IsInputBest ms came (empty_fabric ports ranks) rs
  begins_whole =
      let both = sym (take-append-drop n rs) ∙ ap (λ (l : List SlotRecord). take n rs ++ l) quiet in
      let sent = departures_on (take n rs) idle 0 n (omega (arith, cut)) in
      search (arith, rules, transfers_both, is_whole, adds_nothing, append-nil, figures_fold, fold-append)

-- ## With limits

pub limited_ends : (limits : List (Option ℕ)) (ms : List Machine) (ports class_count : ℕ) (ranks : List (List ℕ))
    (came : List Arrival) (rs : List LimitedRecord) (g : Marked Fabric) →
    AllByRecursion (AreForPorts ports class_count) (first_slots came (length rs)) →
    LimitedWholeRun IsStable limits ms came (empty_limited_fabric ports ranks) rs g →
    LimitedEndsAlike limits ms came (empty_limited ports ranks) rs g
limited_ends limits ms ports class_count ranks came rs g fit w =
    let start = empty_limited_fabric ports ranks in
    let beside = λ (m : ℕ). limited_beside limits ms ports class_count ranks (first_slots came m) in
    let b = beside (length rs) rs g fit (run_of_whole _ came start rs (λ f. IsEmptyFabric f.state) g w) in
    let ends = ends_with (LimitedFabricSlot IsStable limits ms) came start rs (λ f. IsEmptyFabric f.state)
    (LimitedIdealAfter limits ms came (empty_limited ports ranks)) (λ s. IsEmptyIdeal s.state) g b.after w (rw b.ran)
    ((empty_together _ g.state b.after.state b.agrees.states).0 w.empty) (λ m u v lt late x at over.
    let c = beside m _ v (fewer_fit (AreForPorts ports class_count) came m (length rs) (omega arith) fit) x in
    search (arith, rules, empty_together _ v.state c.after.state c.agrees.states)) in
    let long = arriving_length came 0 (length rs) in search (arith, rules, ends)

-- and there is one whole run, if there is one
pub one_limited_whole : (limits : List (Option ℕ)) (ms : List Machine) (came : List Arrival) (start g h : Marked Fabric)
    (rs ss : List LimitedRecord) → LimitedWholeRun IsInputBest limits ms came start rs g →
    LimitedWholeRun IsInputBest limits ms came start ss h → (rs ≡ ss) × (g ≡ h)
one_limited_whole limits ms = one_whole (LimitedFabricSlot IsInputBest limits ms) (only_limited_run ms limits).run _
