-- A slot of a replay, step by step. It is a slot of the fabric with limits, whose matchings are those that the lines
-- tell. So what each step asks for is what it asks of any fabric that agrees with an ideal switch, and each fault of
-- the lines is one of the phase in which it comes. What each step leaves is one record: what comes is judged and ranked
-- and arrives, the lines of the first phase are gone by, the outputs send, and the lines of the second are gone by.
-- Then a replay before its first slot, and after slots in which nothing happens. And how the replay of a log begins
-- that is made for a setup: the machines are those of the disciplines, each in its opening state, and there is room for
-- all cells that arrive, and for what one slot notes.
use Rattle.cq_audit.proofs.Terms.{common_steps, rules, ◌≡◌, ℕ, ◌+◌, ◌<◌, ◌≤◌, ◌^◌, Bool, List, ◌++◌, length, map, get_or, Option, Ok, Err, sym, ap, ◌∙◌, subst, arith, append_assoc, length-append, [], replicate, length-map, length-replicate, Cell, Queued, TagFault, Transfer, RoomView, Machine, class_count, AreForOneSwitch, admitted, marked, marks_after, marks_down, count_for, ranking, admitted_arrives, admitted_for_ports, list_of, SlotRecord, fabric_admission, LimitedFabricRun, Arrives, transfers_in, ComeApart, FitLists, Queues, fabric_of, admits_are, admitted_room, numbers_fit, still_holds, holds_first, IsPhaseFault, in_phase, CanCome, CanReplay, IsInStep, IsSlotFault, ReplayView, SlotReplayed, shown, SlotFault, all_weaker, no_arrivals, IsStable, IsEmptyFabric, quiet_limited_slots, empty_agree, fronts, ComeToPorts, LimiterView, RanksView, idled, length-told, by_marks, SendsAlike, HoldsFabric, AreRanked, BuffersHaveRoom, HaveArrived, HaveJudged, HaveMoved, HaveSent, stable_limited_too, rested_agrees, rested_limited_run, still_held, length-map-range_with_len, length-idle, ◌*◌, get_or-map-range_with_len, Setup, AreInOrder, IsReady, CanBeAudited, IsOpened, Scheduled, machine_from}
use Rattle.cq_fabric.proofs.Slot.{alike as sends_alike, arrive as slot_arrives, can_cross_first, can_cross_second, come_apart, depart as slot_departs, few_cross, fill as slot_fills, fits_lists, held_before, is_slot, recorded}
use Rattle.cq_audit.specs.SlotSteps.{CanGoBy, CanSend, HasGoneBy, HaveAllSent, HaveCome}
use Rattle.cq_audit.proofs.Following.{second_behind}

-- ## Before a slot

module _ (M : List ℕ → Machine) {slot : ℕ} {v : ReplayView} (ranks : RanksView) (q : Queues) (l : LimiterView)
    (is : shown ranks q l ≡ v) where
  pub in_step_here : IsInStep (map M v.fixed) slot v → IsInStep (map M ranks.fixed) slot (shown ranks q l)
  in_step_here step = subst (λ (w : ReplayView). IsInStep (map M w.fixed) slot w) (sym is) step

-- ## What comes

module _ (M : List ℕ → Machine) {slot : ℕ} {cells : List (Option Cell)} (ranks : RanksView) (q : Queues)
    (l : LimiterView) (can : CanCome (map M ranks.fixed) slot cells (shown ranks q l)) where
  abbrev machines : List Machine
  machines = map M ranks.fixed

  pub come_to_ports : ComeToPorts (length l.limits) cells
  come_to_ports = grind (arith, common_steps, length-map)

  holds : HoldsFabric (fabric_of q ranks.states) l
  holds = grind (arith, common_steps)

  buffers_room : BuffersHaveRoom (length machines) q cells
  buffers_room j inside = grind (arith, common_steps, length-map, can.buffer_room)

  -- the numbers of cells that outputs hold stay below 2^64
  pub held_fits : ((j : ℕ) → length (list_of q.buffers j) ≤ get_or q.to_outputs j 0) →
      ((j : ℕ) → get_or q.to_outputs j 0 < 2 ^ 64) → (j : ℕ) → j < length l.limits →
      get_or l.held j 0 + count_for j cells < 2 ^ 64
  held_fits = grind (arith, common_steps, numbers_fit, holds, buffers_room)

  module _ (marks : List Bool) where
    -- the ranks of what is admitted fit, and so they are found to
    pub no_fault : marks ≡ marks_after l.limits l.held l.marks cells → (fault : TagFault) →
        ranking machines slot 0 (admitted marks cells) ranks.states ≡ Err fault → ⊥
    no_fault are fault err = search (arith, rules, admits_are, holds)

    module _ (came : List (Option Queued)) (states : List (List ℕ))
        (is : ranking machines slot 0 (admitted marks cells) ranks.states ≡ Ok (record { came = came; ranks = states }))
      where
        keyed : AreRanked machines slot q ranks.states (admitted marks cells) (class_count machines) came states
        keyed = grind (arith, common_steps, admitted_for_ports, length-map)

        pub fit : FitLists came q
        fit = fits_lists keyed (search (arith, rules, can.list_room, admitted_arrives))

        pub apart : ComeApart came q.inputs
        apart = come_apart keyed

-- ## A slot

module _ (M : List ℕ → Machine) {slot : ℕ} {cells : List (Option Cell)} {lines : List Transfer}
    {note : RoomView Transfer} {v : ReplayView} {ranks0 : RanksView} {q0 : Queues} {l : LimiterView}
    {ranks1 : RanksView} {q1 : Queues} {judged : LimiterView}
    (come : HaveCome (map M ranks0.fixed) slot cells ranks0 ranks1 q0 q1 l judged) (is : shown ranks0 q0 l ≡ v)
    (can : CanReplay (map M v.fixed) slot cells lines v note) where
  abbrev ms : List Machine
  ms = map M ranks0.fixed

  known : CanReplay ms slot cells lines (shown ranks0 q0 l) note
  known = rw (← is) at can

  -- the cells that are admitted
  abbrev comes : List (Option Cell)
  comes = admitted judged.marks cells

  ranked : AreRanked ms slot q0 ranks0.states comes (class_count ms) come.came ranks1.states
  ranked = keyed M ranks0 q0 l known.come judged.marks come.came ranks1.states come.ranked

  arrived : HaveArrived q0 come.came q1
  arrived = grind (arith, common_steps)

  judges : HaveJudged comes l judged
  judges = grind (arith, common_steps)

  room : BuffersHaveRoom (length ms) q0 comes
  room = let all = known in search (arith, rules, admitted_room, buffers_room)

  first_long : length q1.inputs ≡ length ranks0.fixed
  first_long = search (arith, rules, length-map)

  arrives : Arrives ms slot (fabric_admission l.limits cells (marked l.marks (fabric_of q0 ranks0.states))).cells
      come.came (fabric_of q0 ranks0.states) (fabric_of q1 ranks1.states)
  arrives = let all = known in grind (arith, common_steps, admits_are, holds, slot_arrives, ranked, arrived)

  -- the lines of the first phase can be gone by
  pub first_goes : CanGoBy slot 1 lines q1 note
  first_goes = let all = known in search (rules, can_cross_first, ranked, arrived, room, first_long)

  pub first_fault : (f : SlotFault) → (f.phase ≡ 1) × IsPhaseFault q1.inputs (in_phase slot 1 lines) f.fault →
      IsSlotFault (map M v.fixed) slot cells lines v f
  first_fault f wrong = rw (← is) (grind (arith, common_steps, ranked, arrived, arrives))

  module _ {behind : List Transfer} {q2 : Queues} {note1 : RoomView Transfer}
      (one : HasGoneBy slot 1 lines behind q1 q2 note note1) where
    moved1 : HaveMoved one.crossed.pairs q1 q2
    moved1 = search (arith, rules)

    pub can_send : CanSend ranks1 q2 judged
    can_send = search (arith, rules, first_long, length-map, held_before ranked arrived room)

    module _ {ranks2 : RanksView} {q3 : Queues} {after : LimiterView}
        (sent : HaveAllSent (map M ranks1.fixed) ranks1 ranks2 q2 q3 judged after) where
      have_sent : HaveSent ms q1 ranks1.states q2 ranks2.states q3
      have_sent = search (arith, rules)

      second_long : length q3.inputs ≡ length q1.inputs
      second_long = ap length sent.inputs ∙ one.crossed.moves.ports.0

      -- the lines of the second phase can be gone by: no more cells crossed than there are inputs
      pub second_goes : CanGoBy slot 2 behind q3 note1
      second_goes =
          let all = known in
          let few = few_cross one.crossed.pairs q1.inputs slot 1 one.crossed.told.stable.matching in
          let same = ap length one.crossed.told.moved in
          let long = first_long in
          search (rules, arith, second_long, can_cross_second, ranked, arrived, room, moved1, have_sent, all_weaker)

      pub second_fault : (f : SlotFault) → (f.phase ≡ 2) × IsPhaseFault q3.inputs (in_phase slot 2 behind) f.fault →
          IsSlotFault (map M v.fixed) slot cells lines v f
      second_fault f wrong =
          let gone = slot_departs ranked arrived room moved1 have_sent in
          rw (← is) (search (arith, rules, ranked, arrived, arrives, second_behind, slot_fills))

      module _ {rest : List Transfer} {q4 : Queues} {note2 : RoomView Transfer}
          (two : HasGoneBy slot 2 behind rest q3 q4 note1 note2) where
        moved2 : HaveMoved two.crossed.pairs q3 q4
        moved2 = search (arith, rules)

        abbrev of_slot : SlotRecord
        of_slot = recorded ranked arrived room moved1 have_sent moved2

        alike : SendsAlike ms slot comes ranked.ideal (fronts q2.buffers) (fabric_of q4 ranks2.states)
        alike = sends_alike ranked arrived room moved1 have_sent moved2

        moved : transfers_in of_slot ≡ one.own ++ two.own
        unfolding transfers_in
        moved = search (arith, rules)

        pub replayed : SlotReplayed (map M v.fixed) slot cells lines rest v (shown ranks2 q4 after) note note2
        replayed =
            let all = known in
            let both = moved in
            let long = second_long ∙ first_long in
            let still = still_holds ranked (fronts q2.buffers) (fabric_of q4 ranks2.states) l judged after alike
            (holds M ranks0 q0 l known.come) judges sent.released in
            let slot_is = is_slot ranked arrived room moved1 have_sent moved2 in
            rw (← is) (record {
              of_slot = record { admission = by_marks judged.marks cells; of_slot = of_slot };
              is_slot = search (arith, rules, admits_are, holds, slot_is);
              moved = search (arith, rules, append_assoc);
              in_order = rw (← long) two.parted.in_order;
              behind = two.parted.behind;
              in_step = search (arith, rules, second_long, have_sent, length-told, judges, still, alike);
              made = search (arith, rules);
              noted = search (arith, rules, append_assoc);
              note_room = search (arith, rules, length-append);
            })

-- ## Before the first slot

-- parts that were made for so many ports: no cell waits, no output holds one, and no mark is up
pub record AreNew (n : ℕ) (q : Queues) (l : LimiterView) : Type 0 where
  pub inputs : q.inputs ≡ replicate n []
  pub buffers : q.buffers ≡ replicate n []
  pub limits : length l.limits ≡ n
  pub held : l.held ≡ replicate n 0
  pub marks : l.marks ≡ marks_down n

module _ {n : ℕ} {q : Queues} {l : LimiterView} (new : AreNew n q l) (ranks : RanksView) where
  pub in_step_first : {ms : List Machine} → AreForOneSwitch ms → length ms ≡ n → length ranks.states ≡ n →
      IsInStep ms 0 (shown ranks q l)
  in_step_first one ports long = search (arith, rules, holds_first, empty_agree n ranks.states, length-replicate)

-- ## After slots in which nothing happens

module _ (ms : List Machine) (slot to : ℕ) (ranks rested : RanksView) (q : Queues) (l : LimiterView)
    (step : IsInStep ms slot (shown ranks q l)) (empty : IsEmptyFabric (fabric_of q ranks.states)) where
  pub rested_step : length rested.states ≡ length ranks.states → IsInStep ms to (shown rested q l)
  rested_step long =
      search (arith, rules, still_held, rested_agrees slot to (fabric_of q ranks.states) step.ideal rested.states empty)

  pub rested_run : (ports count : ℕ) → length ms ≡ ports → 0 < count → rested.states ≡ idled ms ports ranks.states →
      idled ms ports rested.states ≡ rested.states →
      LimitedFabricRun IsStable l.limits ms slot (replicate count no_arrivals)
      (marked l.marks (fabric_of q ranks.states)) (quiet_limited_slots ms count slot ports ranks.states l.marks)
      (marked l.marks (fabric_of q rested.states))
  rested_run ports count many some is again =
      let run = rested_limited_run l.limits l.marks ms ports count slot (fabric_of q ranks.states) rested.states
      empty in search (arith, rules, (stable_limited_too ms l.limits).run, run)

-- ## What the slots go by

pub ruleset lengths = (length-map, length-map-range_with_len, length-idle)

pub ruleset rest_steps = (in_step_here, rested_run, rested_step, lengths)

-- ## Made for a setup

pub ready : (setup : Setup) (limits : List (Option ℕ)) (s : Scheduled) (first : ReplayView) →
    CanBeAudited setup limits s → IsOpened setup limits s.came first → (lines : List Transfer)
    (note : RoomView Transfer) → AreInOrder (length setup.kinds) lines → note.items ≡ [] →
    note.spare ≡ 2 * length setup.kinds → IsReady (map machine_from first.fixed) s.came lines first note
ready setup limits s first can is lines note order none spare = search (arith, rules, get_or-map-range_with_len)
