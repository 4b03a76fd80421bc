-- Flows leave as they came. At a port the run begins with an empty list, so what came of a flow in its slots is what
-- the port sent of it and then what its list shows at the end. There are slots enough, so at the end the list is
-- empty. And what came in the slots is the flow's arrivals in their order. At what is no port nothing leaves, and
-- nothing comes for it. A run with limits that goes on from any state, and leaves nothing, is the run without limits of
-- the admitted cells. So of each flow what waits in the state leaves first, in the order of the output's list, and then
-- what is admitted of what comes, in its order. The cells of a flow come at its input, and of those that come there
-- whole packets are admitted; those of the packet that goes on are admitted where the mark of its input is down. So
-- what leaves of a flow is what came of it, but for the packets that were refused, with all their cells.
use Rattle.cq_ideal.proofs.Terms.{all_made, common_steps, ◌≡◌, ℕ, ◌<◌, ◌≤◌, List, [], ◌∷◌, length, map, Option, Ok, refl, ⊎_elim, arith, slice_index_or, All, AllByRecursion, range_with_len, cases_lt, ne_eqb, and_left, cond-false, append-nil, length-replicate, get_or-replicate, get_or_past, Cell, Queued, Arrival, arriving, enough, traffic_of, Machine, machine_at, IsEmptyIdeal, Ran, ideal_run, empty_ideal, departures_of, left_in_flow, came_in_flow, IsForSwitch, IsRunnable, FlowsLeaveAsTheyCame, all_weaker, most_ports, rules, ◌∙◌, Bool, ◌++◌, filter, ap, KeepsLaws, Admission, Marked, admission, admitted, admitted_in, mark_at, IdealState, LimitedRan, limited_run, AreJudged, AreOfPackets, cells_at, not, empty_limited, refused_in}
use Rattle.cq_ideal.proofs.FlowStands.{present, AreOfClasses, Stands, of_flow, shown}
use Rattle.cq_ideal.proofs.FlowRun.{flow_came, passed, no_port}
use Rattle.cq_ideal.proofs.FlowCount.{all_found, all_present, arriving_is}
use Rattle.cq_ideal.proofs.AtInput.{came_in_order, comes_at_input, StandAt, still_stand, all_stand, of_input, refused_are}
use Rattle.cq_ideal.proofs.EnoughSlots.{empty_at_end, limited_empty_at_end}
use Rattle.cq_ideal.proofs.LimitedRuns.{is_run_of, judged}
use Rattle.cq_ideal.proofs.Packets.{TakenOrRefused, refused_here, taken_or_refused}
use Rattle.cq_ideal.specs.LimitedFlows.{FlowsLeaveInPackets, LeaveInPackets}

-- ## The classes of what comes

pub all_in_range : (P : List (Option Cell) → Type 0) (came : List Arrival) (a n : ℕ) →
    ((t : ℕ) → P (arriving came t)) → AllByRecursion P (map (arriving came) (range_with_len a n))
all_in_range P came a n f = all_made P (arriving came) a n (λ t _ _. f t)

pub class_in_slot : (ms : List Machine) (ports j : ℕ) (came : List Arrival) (inputs : ℕ) → inputs ≡ most_ports →
    AllByRecursion (IsForSwitch ms ports) came → (t : ℕ) →
    AreOfClasses (machine_at ms j) j (present (arriving came t))
class_in_slot ms ports j came inputs e all t =
    let P = λ (cell : Cell). cell.output ≡ j → cell.class < (machine_at ms j).classes in
    rw (arriving_is came t inputs e) (all_present came t P 0 inputs (search (arith, rules, all_found, all_weaker)))

pub classes : (ms : List Machine) (ports j : ℕ) (came : List Arrival) → AllByRecursion (IsForSwitch ms ports) came →
    AllByRecursion (λ cells. AreOfClasses (machine_at ms j) j (present cells)) (traffic_of came)
unfolding traffic_of
classes ms ports j came all = all_in_range _ came 0 (enough came) (class_in_slot ms ports j came most_ports refl all)

-- nothing comes for what is no port
pub none_came : (ms : List Machine) (ports i c j : ℕ) (came : List Arrival) →
    AllByRecursion (IsForSwitch ms ports) came → ports ≤ j → came_in_flow i c j came ≡ []
none_came ms ports i c j [] all le = refl
none_came ms ports i c j (a ∷ came) all le =
    grind (arith, common_steps, and_left, ne_eqb, cond-false, none_came ms ports i c j came all.1)

-- ## Any traffic

-- a list that is empty, by its place
pub empty_at : (lists : List (List Queued)) (j : ℕ) → All (λ cells. cells ≡ []) lists → slice_index_or lists j [] ≡ []
empty_at lists j over = grind (arith, common_steps, get_or_past lists j [], cases_lt j (length lists))

-- what left of a flow is what came of it, where the run leaves nothing, and nothing comes for what is no port
pub left_as_came : (ms : List Machine) (ports : ℕ) (openings : List (List ℕ)) (came : List Arrival) →
    IsRunnable ms ports openings came → (i c j : ℕ) (traffic : List (List (Option Cell))) (ran : Ran) →
    ideal_run ms 0 traffic (empty_ideal ports openings) ≡ Ok ran →
    AllByRecursion (λ cells. AreOfClasses (machine_at ms j) j (present cells)) traffic →
    IsEmptyIdeal ran.after → (all : List Cell) → flow_came i c j traffic ≡ all →
    (ports ≤ j → all ≡ []) → left_in_flow i c j (departures_of 0 ran.gone) ≡ all
left_as_came ms ports openings came runs i c j traffic ran is are over all comes none =
    ⊎_elim (λ inside.
    let p = passed ms j (runs.machines j inside) i c traffic 0 (empty_ideal ports openings) ran is in
    search (arith, rules, p, runs.sizes j, append-nil, empty_at ran.after.lists, get_or-replicate, length-replicate))
    (λ past. search (arith, rules, no_port ms i c j traffic 0, length-replicate)) (cases_lt j ports)

-- ## Without limits

pub flows_leave : FlowsLeaveAsTheyCame
flows_leave ms ports openings came ran runs is i c j =
    let each = classes ms ports j came runs.for_switch in
    search (arith, rules, left_as_came, each, came_in_order, none_came, empty_at_end ms)

-- ## What holds of the arrivals of each slot holds of the admitted ones

each_slot : (Q : List (Option Cell) → Type 0) →
    ((marks : List Bool) (cells : List (Option Cell)) → Q cells → Q (admitted marks cells)) →
    (limits : List (Option ℕ)) (marks : List Bool) (traffic : List (List (Option Cell)))
    (admissions : List Admission) → AreJudged limits marks traffic admissions → AllByRecursion Q traffic →
    AllByRecursion Q (admitted_in admissions)
unfolding admission
each_slot Q keeps limits marks (cells ∷ traffic) (a ∷ admissions) judged all =
    grind (arith, common_steps, each_slot Q keeps limits a.marks traffic admissions judged.1 all.1)
each_slot Q keeps limits marks traffic admissions judged all = grind (arith, common_steps)

all_kept : (P : Cell → Type 0) (marks : List Bool) (cells : List (Option Cell)) → AllByRecursion P (present cells) →
    AllByRecursion P (present (admitted marks cells))
all_kept P [] cells all = all
all_kept P (mark ∷ marks) cells all = grind (arith, common_steps, all_kept P marks)

-- two tests, in either order
filter_both : (p q : Cell → Bool) (cells : List Cell) → filter p (filter q cells) ≡ filter q (filter p cells)
filter_both p q [] = refl
filter_both p q (cell ∷ cells) = grind (arith, common_steps, filter_both p q cells)

-- ## A run with limits

module _ (limits : List (Option ℕ)) (ms : List Machine) (slot : ℕ) (traffic : List (List (Option Cell)))
    (old : Marked IdealState) (ran : LimitedRan) (is : limited_run limits ms slot traffic old ≡ Ok ran)
    (stand : AllByRecursion (StandAt 0) traffic) (over : IsEmptyIdeal ran.after.state) where
  pub each_judged : AreJudged limits old.marks traffic ran.admissions
  each_judged = judged limits ms slot traffic old ran is

  pub of_classes : (j : ℕ) → AllByRecursion (λ cells. AreOfClasses (machine_at ms j) j (present cells)) traffic →
      AllByRecursion (λ cells. AreOfClasses (machine_at ms j) j (present cells)) (admitted_in ran.admissions)
  of_classes j are = each_slot (λ cells. AreOfClasses (machine_at ms j) j (present cells)) (all_kept _) limits old.marks
      traffic ran.admissions each_judged are

  module _ (i next : ℕ) (packets : AreOfPackets next (cells_at i traffic)) where
    -- what is admitted of what comes to the input
    pub whole_on : TakenOrRefused next (mark_at old.marks i) (cells_at i traffic)
        (cells_at i (admitted_in ran.admissions)) (refused_here limits i traffic ran.admissions)
    whole_on = taken_or_refused limits i next old.marks traffic ran.admissions each_judged packets

    pub admitted_of_flow : (c j : ℕ) → flow_came i c j (admitted_in ran.admissions)
        ≡ filter (λ cell. whole_on.is_taken cell.id.packet) (flow_came i c j traffic)
    unfolding of_flow
    admitted_of_flow c j =
        search (rules, comes_at_input, filter_both, whole_on.are, each_slot (StandAt 0), still_stand 0, each_judged)

    -- what leaves of a flow
    pub flow_on : (c j : ℕ) → KeepsLaws (machine_at ms j) → j < length old.state.lists → j < length old.state.ranks →
        Stands (machine_at ms j) (slice_index_or old.state.ranks j []) slot 0 (slice_index_or old.state.lists j []) →
        AllByRecursion (λ cells. AreOfClasses (machine_at ms j) j (present cells)) traffic →
        left_in_flow i c j (departures_of slot ran.gone) ≡ shown i c (slice_index_or old.state.lists j [])
        ++ filter (λ cell. whole_on.is_taken cell.id.packet) (flow_came i c j traffic)
    flow_on c j laws in_lists in_ranks stands are =
        let p = passed ms j laws i c _ slot old.state _ (is_run_of limits ms slot traffic old ran is) in
        search (arith, rules, p, of_classes j are, shown, append-nil, empty_at, admitted_of_flow)

-- ## With limits

pub in_packets : (limits : List (Option ℕ)) (ms : List Machine) (ports : ℕ) (openings : List (List ℕ))
    (came : List Arrival) (ran : LimitedRan) → IsRunnable ms ports openings came →
    limited_run limits ms 0 (traffic_of came) (empty_limited ports openings) ≡ Ok ran → (i : ℕ) →
    AreOfPackets 0 (cells_at i (traffic_of came)) → (leave : LeaveInPackets came ran i)
    × (of_input i (refused_in ran.admissions)
    ≡ filter (λ cell. not (leave.is_taken cell.id.packet)) (cells_at i (traffic_of came)))
in_packets limits ms ports openings came ran runs is i packets =
    let start = empty_limited ports openings in
    let traffic = traffic_of came in
    let stand = all_stand came in
    let over : IsEmptyIdeal ran.after.state =
    grind (arith, common_steps, limited_empty_at_end limits ms ports openings came) in
    let whole = whole_on limits ms 0 traffic start ran is stand over i 0 packets in
    let takes = λ (cells : List Cell). filter (λ (cell : Cell). whole.is_taken cell.id.packet) cells in (
      record {
        is_taken = whole.is_taken;
        admitted = whole.are;
        left = λ c j. left_as_came ms ports openings came runs i c j _ _ (is_run_of limits ms 0 traffic start ran is)
            (of_classes limits ms 0 traffic start ran is stand over j (classes ms ports j came runs.for_switch)) over
            (takes (came_in_flow i c j came)) (admitted_of_flow limits ms 0 traffic start ran is stand over i 0 packets
            c j ∙ ap takes (came_in_order runs i c j)) (search (arith, rules, none_came));
      },
      refused_are i limits start.marks traffic ran.admissions (judged limits ms 0 traffic start ran is) stand
          ∙ whole.others,
    )

pub flows_leave_in_packets : FlowsLeaveInPackets
flows_leave_in_packets limits ms ports openings came ran runs is i packets = grind (arith, common_steps, in_packets)
