-- The replay of a log, slot by slot. First what bounds a run of a fabric with stable matchings over all cells that
-- arrive. In a slot a list gets no more cells than arrive at its input, and an output holds no more cells more than
-- arrive for it. So no list and no output holds more than arrives in all. Beside the fabric an ideal switch runs, with
-- which it agrees. So where the whole run of that one meets no tag fault, the fabric meets none, and it goes on for no
-- more slots than that one. Then what is known before each slot: the fabric has had the slots before it, with stable
-- matchings, and what was moved in them is what the lines before it say; the run is over after none of them. A slot
-- moves what its lines say, and slots that are skipped move nothing. So the lines that are left are those of this slot
-- and of later ones. At a fault of a phase all before it is known, and at the end of the run no line is left, or the
-- first that is left is not reached.
use Rattle.cq_audit.proofs.Terms.{common_steps, rules, ◌≡◌, ℕ, ◌+◌, ◌-◌, ◌<◌, ◌≤◌, Bool, List, [], length, map, Option, Result, Err, arith, length-append, ◌*◌, zero, suc, ◌∷◌, ◌++◌, refl, append_assoc, IfErr, IsOk, OnOk, cases_lt, take_all, take-append-le, Arrival, arriving, end_of, enough, RoomView, Cell, Transfer, Machine, class_count, Marked, first_slots, arriving_from, ranking, IsStable, Fabric, IsEmptyFabric, LimitedFabricRun, empty_limited_fabric, fabric_admission, IsLimitedFault, LimitedFabricSlot, LimitedRecord, arrivals_for, refusal_of, AreInOrder, NoneBefore, CanReplay, HasRested, IsInStep, IsSlotFault, ReplayView, SlotReplayed, ports_in, IsMadeAs, IsReady, IsStill, RunEnds, Reaches, before_slot, AuditRefusal, Left, SlotFault, arriving_length, arriving_parts, quiet_limited_slots, transfers_of_run, AfterBy, run_length, first_more, quiet_slots, Ok, Some, TagFault, arrival_at, IsTraffic, is_from, is_to, number_of, count_for, whole_limited_run, empty_limited, input, reach, empty_list, empty_together, nothing_for, slots_fit, arrives_found, come_from, from_here, from_last, no_more_from, one_if, some_one, idled, all_go_on, transfers_one, quiet_transfers, limited_parts, run_fault, held_for, LimitedAgrees, LimitedRunsAlike, same_limited_fault, begin, same_limited_run, limited_lists_kept, limited_outputs_kept, come_for, for_here, for_last, no_more_to}
use Rattle.cq_audit.proofs.Following.{before_is, phase_later, none_first, none_from, none_next, one_stable_run, all_late}
use Rattle.cq_audit.proofs.AuditExact.{Going, Runs, all_before, moved, moved_parts}
use Rattle.cq_ideal.proofs.LimitedEnds.{last, limited_ends, limited_not_more, limited_whole_fault}

ok_from : {A E : Type 0} (x : Result A E) → IsOk x → (a : A) × (x ≡ Ok a)
ok_from x is = grind (arith, common_steps)

module _ (limits : List (Option ℕ)) (ms : List Machine) (came : List Arrival) where
  -- ## How many cells wait

  grow : (n slot : ℕ) (f g : Marked Fabric) (rs : List LimitedRecord) →
      LimitedFabricRun IsStable limits ms slot (arriving_from came slot n) f rs g →
      ((i : ℕ) → length (input g.state i) ≤ length (input f.state i) + come_from i came slot n)
      × ((j : ℕ) → held_for j g.state ≤ held_for j f.state + come_for j (arriving_from came slot n))
  unfolding arriving_from
  grow (suc n) slot f g (r ∷ rs) run =
      let kept = limited_lists_kept limits ms slot (arriving came slot) f run.0 r run.1 in
      search (arith, rules, some_one, arrives_found, from_here, limited_outputs_kept, for_here, kept, grow n (slot + 1))
  grow n slot f g rs run = search (arith, rules)

  module _ (ports : ℕ) (ranks : List (List ℕ)) (slot : ℕ) (f : Marked Fabric) (rs : List LimitedRecord)
      (run : Runs limits ms came (empty_limited_fabric ports ranks) slot rs f) where
    -- where a cell arrives in the next slot, fewer wait at its input than arrive there in all
    pub list_is_short : (i : ℕ) (cell : Cell) → arrival_at (arriving came slot) i ≡ Some cell →
        length (input f.state i) < number_of (is_from i) came
    list_is_short i cell at =
        let grown = (grow slot 0 (empty_limited_fabric ports ranks) f rs run).0 i in
        let all = no_more_from i came (suc slot) in
        let comes = arrives_found came slot i in grind (arith, common_steps, empty_list, one_if, from_last)

    -- the cells that an output holds and those that arrive for it in the next slot are no more than arrive for it in
    -- all
    pub output_is_short : (j : ℕ) → held_for j f.state + count_for j (arriving came slot) ≤ number_of (is_to j) came
    output_is_short j =
        grind (arith, common_steps, empty_list, nothing_for, for_last, no_more_to j came (slot + 1), grow)

    -- ## Beside the ideal switch

    module _ (classes : ℕ) (traffic : IsTraffic ports classes came) where
      pub beside : LimitedRunsAlike limits ms 0 (first_slots came slot) (empty_limited ports ranks) rs f
      beside = same_limited_run limits ms classes 0 (first_slots came slot) (empty_limited_fabric ports ranks) f _ rs
          (begin limits ms classes ports ranks _ (slots_fit ports classes came 0 slot traffic)) run

      pub agree_now : LimitedAgrees slot f beside.after
      agree_now = grind (arith, common_steps, arriving_length)

      -- a fault in the next slot is one of the whole ideal run
      fault_there : (fault : TagFault) →
          ranking ms slot 0 (fabric_admission limits (arriving came slot) f).cells f.state.ranks ≡ Err fault →
          whole_limited_run limits ms came (empty_limited ports ranks) ≡ Err fault
      fault_there fault is =
          let here = (same_limited_fault limits ms slot (arriving came slot) f beside.after fault agree_now).1 is in
          let parts = limited_parts limits ms 0 slot (first_slots came slot) (arriving came slot ∷ []) in
          search (arith, rules, first_more came slot, arriving_length, parts, limited_whole_fault limits, run_fault)

  -- ## Where the run ends

  module _ (ports classes : ℕ) (ranks : List (List ℕ)) (traffic : IsTraffic ports classes came)
      (whole : IsOk (whole_limited_run limits ms came (empty_limited ports ranks))) where
    -- after as many slots as the ideal switch has, no cell is to come and none waits
    over_there : (f : Marked Fabric) (rs : List LimitedRecord) →
        Runs limits ms came (empty_limited_fabric ports ranks) (last limits ms ports ranks came) rs f →
        (end_of came ≤ last limits ms ports ranks came) × IsEmptyFabric f.state
    over_there f rs run =
        let n = last limits ms ports ranks came in
        let ran = ok_from _ whole in
        let agrees = agree_now ports ranks n f rs run classes traffic in
        search (arith, rules, limited_ends limits ms ports ranks came ran.0, empty_together n f.state, agrees.states)

    -- so a run that is over at no slot up to this one has no more slots
    pub slots_bounded : (slot : ℕ) (f : Marked Fabric) (rs : List LimitedRecord) →
        Runs limits ms came (empty_limited_fabric ports ranks) slot rs f →
        Going limits ms came (empty_limited_fabric ports ranks) slot rs → slot < enough came
    slots_bounded slot f rs run not_over =
        let far = reach (LimitedFabricSlot IsStable limits ms) came (empty_limited_fabric ports ranks) rs
        (last limits ms ports ranks came) slot f in
        search (arith, rules, limited_not_more limits ms ports ranks came, far, over_there, not_over, cases_lt)

-- ## What is known before a slot

-- what is known before a slot, where these lines are left
pub record Replaying (M : List ℕ → Machine) (came : List Arrival) (lines : List Transfer) (first : ReplayView)
    (slot : ℕ) (rest : List Transfer) (now : ReplayView) (note : RoomView Transfer) : Type 0 where
  pub records : List LimitedRecord
  pub runs : Runs first.limits (map M first.fixed) came first.fabric slot records now.fabric
  pub going : (m : ℕ) (f : Marked Fabric) → m < slot →
      AfterBy (LimitedFabricSlot IsStable first.limits (map M first.fixed)) came first.fabric records m f →
      end_of came ≤ m → IsEmptyFabric f.state → ⊥
  pub told : lines ≡ moved records ++ rest
  pub in_order : AreInOrder (ports_in now) rest
  pub none_before : NoneBefore slot 1 rest
  pub in_step : IsInStep (map M now.fixed) slot now
  pub made : IsMadeAs first now
  pub note_room : note.spare + length note.items ≡ 2 * ports_in now

-- ## Before the first slot

pub replaying_first : (M : List ℕ → Machine) (came : List Arrival) (lines : List Transfer) (first : ReplayView)
    (note : RoomView Transfer) → IsReady (map M first.fixed) came lines first note →
    Replaying M came lines first 0 lines first note
unfolding arriving_from transfers_of_run
replaying_first M came lines first note ready = search (arith, rules, none_first)

-- ## What is moved by one slot more, and by slots in which nothing happens

none_moved_by : (ms : List Machine) (k slot ports : ℕ) (ranks : List (List ℕ)) (marks : List Bool) →
    moved (quiet_limited_slots ms k slot ports ranks marks) ≡ []
unfolding transfers_of_run
none_moved_by ms zero slot ports ranks marks = refl
none_moved_by ms (suc k) slot ports ranks marks =
    grind (arith, common_steps, quiet_transfers, none_moved_by ms k (slot + 1) ports (idled ms ports ranks) marks)

module _ {M : List ℕ → Machine} {came : List Arrival} {lines : List Transfer} {first : ReplayView} {slot : ℕ}
    {rest : List Transfer} {now : ReplayView} {note : RoomView Transfer}
    (b : Replaying M came lines first slot rest now note) where
  -- the run has a record for each slot
  one_each : length b.records ≡ slot
  one_each = grind (arith, common_steps, run_length, arriving_length)

  -- what was moved is what the lines before the slot say
  told_before : moved b.records ≡ before_slot slot lines
  told_before = grind (arith, common_steps, before_is, moved, all_before, all_late)

  -- ## Slots that are skipped

  module _ {next : ℕ} {new : ReplayView} (still : IsStill came rest slot next)
      (rested : HasRested (map M now.fixed) slot next now new) where
    abbrev quiet_records : List LimitedRecord
    quiet_records = quiet_limited_slots (map M first.fixed) (next - slot) slot (ports_in now) now.fabric.state.ranks
        now.fabric.marks

    -- what was noted is taken out, and its room is there again
    pub past : {note' : RoomView Transfer} → note'.items ≡ [] → note'.spare ≡ note.spare + length note.items →
        Replaying M came lines first next rest new note'
    past none room =
        let joined = all_go_on (LimitedFabricSlot IsStable first.limits (map M first.fixed))
        (IsLimitedFault first.limits (map M first.fixed)) in
        let parts = moved_parts b.records quiet_records in
        let parts_are = arriving_parts came 0 slot slot (next - slot) next in
        search (arith, rules, none_from, quiet_slots, arriving_length, take-append-le, cases_lt, none_moved_by)

    -- what was not over is not over after it
    pub not_over_past : (end_of came ≤ slot → IsEmptyFabric now.fabric.state → ⊥) → end_of came ≤ next →
        IsEmptyFabric new.fabric.state → ⊥
    not_over_past more over empty = search (arith, rules, rested.slots, cases_lt)

  -- ## A slot

  module _ (more : end_of came ≤ slot → IsEmptyFabric now.fabric.state → ⊥) where
    -- the run is over at no slot up to this one
    not_over : Going first.limits (map M first.fixed) came first.fabric slot b.records
    not_over m f le run late empty = grind (arith, common_steps, one_stable_run, one_each, take_all, cases_lt)

    pub at_next : (cells : List (Option Cell)) (left : List Transfer) (new : ReplayView) (note' : RoomView Transfer) →
        cells ≡ arriving came slot → SlotReplayed (map M now.fixed) slot cells rest left now new note note' →
        Replaying M came lines first (slot + 1) left new note'
    at_next cells left new note' are had =
        let more_moved = rw transfers_one at (moved_parts b.records (had.of_slot ∷ [])) in
        let joined = all_go_on (LimitedFabricSlot IsStable first.limits (map M first.fixed))
        (IsLimitedFault first.limits (map M first.fixed)) in
        let long = arriving_length came 0 slot in
        search (arith, rules, one_each, first_more, take-append-le, not_over, append_assoc, length-append, none_next)

    -- ## A fault

    reached : Reaches first.limits (map M first.fixed) came first.fabric lines slot now.fabric
    reached = grind (arith, common_steps, moved, told_before, not_over)

    pub at_fault : (cells : List (Option Cell)) (fault : SlotFault) → cells ≡ arriving came slot →
        IsSlotFault (map M now.fixed) slot cells rest now fault →
        RunEnds (map M first.fixed) came lines first (Err (refusal_of slot fault))
    at_fault cells fault are is = search (rules, phase_later, all_before, reached)

    -- ## What a slot asks for

    module _ {first_note : RoomView Transfer} (ready : IsReady (map M first.fixed) came lines first first_note) where
      -- the run ends, and a slot is left
      pub a_slot_left : slot < enough came
      a_slot_left = search (arith, rules, slots_bounded, not_over)

      pub can_replay : (cells : List (Option Cell)) → cells ≡ arriving came slot → note.items ≡ [] →
          CanReplay (map M now.fixed) slot cells rest now note
      can_replay cells are none =
          let for_ports = arrivals_for (ports_in first) (class_count (map M first.fixed)) came slot ready.traffic in
          search (arith, rules, fault_there, a_slot_left, list_is_short, output_is_short)

  -- ## The end of the loop

  module _ (late : end_of came ≤ slot) (empty : IsEmptyFabric now.fabric.state) where
    pub at_end : (result : Result (Unit {0}) AuditRefusal) → OnOk result (rest ≡ []) →
        IfErr result (λ refusal. (refusal ≡ Left (length lines - length rest + 1)) × (0 < length rest)) →
        RunEnds (map M first.fixed) came lines first result
    at_end result none some = search (rules, told_before, one_each, reached, cases_lt, take_all, length-append, moved)
