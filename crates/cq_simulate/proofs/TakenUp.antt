-- A fabric can go on from where it stands, whether it is fresh or was taken up. What waits in it came before the slot
-- that it stands at, and what is to come comes from that slot on, so both together are no more than what comes in all:
-- at each input, for each output, and of all cells. So the run of a fabric that is made for tables can begin: what the
-- calls say that made it is one record. And what its end says it says of the tables.
use Rattle.cq_simulate.proofs.Terms.{length-filter_both, ◌≡◌, ℕ, ◌+◌, ◌-◌, ◌*◌, ◌≤◌, ◌<◌, ◌^◌, Bool, false, List, [], ◌∷◌, length, map, Option, refl, arith, rules, common_steps, ◌==◌, All, sum, range_with_len, slice_index, cases_lt, le-leb, le-ltb, lt-leb, lt-ltb, ne_eqb, length-map, length-replicate, get_or-map-range_with_len, Arrival, RoomView, Departure, Transfer, IsTraffic, is_from, is_to, number_of, Scheduled, Setup, CanGoOn, EngineView, fresh_engine, zero_fits, input, fabric_held, held_for, empty_list, Machine, class_count, GoesOn, came_before, goes_on, switch_of, Taken, classes_of, ports_of, Tables, machine_from, machine_of, machines_of, GoesOnFrom, IsReadyOn, to_come, CanBeTakenUp, IsScheduleFor, All-from_recursion, IsSoundFabric, nothing_for, fabric_listed, zero, suc, filter, filter_both, filter_agree, not, cases_eq, sum_by-cons, ap, take_all, frozen_of, marked_fabric, departures_limited, counts_more, openings_of, IsKeptOf, unpacked_run, kept_of, IsFreshFor, HasKept, IsRefusalOn, IsRefusalOf, ideal_departures, ran_ideal, limited_whole_fault, slots_fit, PackedFabricRun, RunRefusal, IsResumed, RunsOn, best_act_alike_from_empty, figures_fold}
use Rattle.cq_simulate.specs.ScheduleFor.{by_port}
use Rattle.cq_simulate.specs.declared.refusal.RunRefusal.TheVariants as refusal

-- ## What came and what is to come

-- each arrival is of one of the two
both_parts : (p : Arrival → Bool) (next : ℕ) (came : List Arrival) →
    number_of p (came_before next came) + number_of p (to_come next came) ≡ number_of p came
both_parts p next [] = refl
both_parts p next (a ∷ came) = search (rules, lt-ltb, le-ltb, lt-leb, le-leb, cases_lt, both_parts p next came)

all_parts : (next : ℕ) (came : List Arrival) →
    length (came_before next came) + length (to_come next came) ≡ length came
all_parts next came = grind (arith, common_steps, length-filter_both, lt-ltb, le-ltb, lt-leb, le-leb, cases_lt)

-- ## Of all inputs, and for all outputs

-- where none of these numbers is more than the arrivals of its kind, all together are no more than the arrivals
kinds_few : (kind : Arrival → ℕ) (f : ℕ → ℕ) (a n : ℕ) (xs : List Arrival) →
    ((k : ℕ) → a ≤ k → f k ≤ number_of (λ x. kind x == k) xs) → sum (map f (range_with_len a n)) ≤ length xs
kinds_few kind f a zero xs few = omega arith
kinds_few kind f a (suc n) xs few =
    let others = kinds_few kind f (a + 1) n (filter (λ x. not (kind x == a)) xs) (λ k more.
    search (arith, rules, few k, filter_both, filter_agree, cases_eq, ne_eqb)) in
    grind (arith, common_steps, sum_by-cons, length-filter_both, few)

-- ## It goes on

-- what holds of a fabric that stands at a slot: its cells came before it, and it has counted no more than came
pub record HoldsSome (came : List Arrival) (e : EngineView) : Type 0 where
  pub early : e.next < 2 ^ 63
  pub inputs : length e.fabric.inputs ≡ length e.fixed
  pub sound : IsSoundFabric e.next e.fabric
  pub lists : (i : ℕ) → length (input e.fabric i) ≤ number_of (is_from i) (came_before e.next came)
  pub buffers : (j : ℕ) → held_for j e.fabric ≤ number_of (is_to j) (came_before e.next came)
  pub proposals : e.figures.proposals < 2 ^ 63
  pub lost : All (λ r. (r.packets ≤ length came) × (r.cells ≤ length came)) e.refused

-- the room for a port
pub room_at : (f : ℕ → ℕ) (n i : ℕ) {rooms : List ℕ} → rooms ≡ map f (range_with_len 0 n) → i < n →
    slice_index rooms i ≡ f i
room_at f n i are inside = grind (arith, common_steps, get_or-map-range_with_len)

pub machines_many : (t : Tables) → length (machines_of t.setup) ≡ ports_of t.setup
machines_many t = length-map t.setup.kinds (λ kind. machine_of kind t.setup.classes)

-- as many machines as kinds
pub machine_count : (M : List ℕ → Machine) (fixed : List (List ℕ)) (setup : Setup) → map M fixed ≡ machines_of setup →
    length fixed ≡ length setup.kinds
machine_count M fixed setup are = grind (arith, common_steps, length-map)

pub goes_from : {t : Tables} {s : Scheduled} (e : EngineView) (sent : RoomView Departure) (note : RoomView Transfer) →
    IsScheduleFor t s → HoldsSome s.came e → map machine_from e.fixed ≡ machines_of t.setup →
    class_count (machines_of t.setup) ≡ length t.setup.classes → e.from_inputs ≡ by_port is_from t s.came →
    e.to_outputs ≡ by_port is_to t s.came → e.stopped ≡ false → length s.came ≤ 2 ^ 34 →
    sent.spare ≡ length s.came + ports_of t.setup → note.spare ≡ length s.came + 2 * ports_of t.setup →
    IsReadyOn (map machine_from e.fixed) s.came e sent note
unfolding fabric_held fabric_listed
goes_from {t} {s} e sent note fit has machines classes from to running few sent_room note_room =
    let before = came_before e.next s.came in
    let ports = length e.fabric.inputs in
    let held = kinds_few (λ a. a.cell.output) (λ j. held_for j e.fabric) 0 ports before in
    let listed = kinds_few (λ a. a.cell.id.input) (λ i. length (input e.fabric i)) 0 ports before in
    search (arith, rules, machine_count, both_parts, room_at, has.lost, held, listed, has.buffers, has.lists, all_parts)

-- ## One that was taken up

pub goes_of : (t : Tables) (s : Scheduled) (taken : Taken) → CanBeTakenUp (switch_of t s) taken →
    IsTraffic (ports_of t.setup) (classes_of t.setup) s.came → GoesOn (switch_of t s) taken.frozen
goes_of t s taken sound traffic = grind (arith, common_steps, GoesOn, goes_on, machines_many)

-- an engine of the machines of the tables, with room for what arrives, can go on from what was taken up
pub can_go_on : {t : Tables} {s : Scheduled} {taken : Taken} {limits : List (Option ℕ)} {from to : List ℕ} →
    CanBeTakenUp (switch_of t s) taken → IsScheduleFor t s →
    class_count (machines_of t.setup) ≡ length t.setup.classes → limits ≡ t.limits →
    from ≡ by_port is_from t s.came → to ≡ by_port is_to t s.came →
    CanGoOn (machines_of t.setup) limits from to taken.frozen
can_go_on {t} {s} {taken} sound fit classes same inputs outputs =
    let goes = goes_of t s taken sound fit.traffic in
    let many = machines_many t in grind (arith, common_steps, goes.lists, both_parts, room_at, goes.buffers)

module _ {t : Tables} {s : Scheduled} {taken : Taken} (sound : CanBeTakenUp (switch_of t s) taken)
    (fit : IsScheduleFor t s) where
  -- it runs on
  pub runs_on : (engine : EngineView) → GoesOnFrom t s.came taken.frozen engine → (sent : RoomView Departure)
      (note : RoomView Transfer) {count total : ℕ} → count ≡ ports_of t.setup → total ≡ length s.came →
      total ≤ 2 ^ 34 → sent.spare ≡ total + count → note.spare ≡ total + 2 * count →
      IsReadyOn (map machine_from engine.fixed) s.came engine sent note
  runs_on engine is sent note counted all few sent_room note_room =
      let goes = goes_of t s taken sound fit.traffic in
      search (arith, rules, goes_from engine sent note fit, goes, machines_many, machine_count, All-from_recursion)

-- How a run of tables begins: the machines are those of the setup's disciplines, each in its opening state, all
-- marks are down, and there is room for all cells that arrive.

-- ## What it runs

-- where the engine stands, as a run that can be taken up
abbrev pub standing : EngineView → RoomView Departure → RoomView Transfer → Taken
standing e sent note = record { frozen = frozen_of e; sent = sent.items; note = note.items }

module _ (M : List ℕ → Machine) (t : Tables) (s : Scheduled) (first : EngineView) (sent : RoomView Departure)
    (note : RoomView Transfer) (machines : map M first.fixed ≡ machines_of t.setup) (limits : first.limits ≡ t.limits)
  where
    -- what an engine with the tables' machines and limits has run, their switch has run
    pub resumes : (run : PackedFabricRun) → HasKept (map M first.fixed) s.came first sent note run →
        IsResumed (switch_of t s) (standing first sent note) (kept_of (unpacked_run run))
    resumes run kept =
        let has = kept.ran in
        let runs : RunsOn (record (switch_of t s) { machines = map M first.fixed; limits = first.limits }) first.next
        (marked_fabric first) has.records (marked_fabric kept.last) = search (arith, rules, take_all) in
        let runs_there = rw (limits, machines) at runs in search (arith, rules)

-- ## What is known once its run can begin

pub record IsMade (t : Tables) (s : Scheduled) (first : EngineView) (sent : RoomView Departure)
    (note : RoomView Transfer) : Type 0 where
  -- the tables and the arrivals
  pub fit : IsScheduleFor t s
  pub few : length s.came ≤ 2 ^ 34
  -- the engine
  pub fresh : IsFreshFor t s.came first
  -- the rooms of what it sends and notes
  pub nothing_sent : sent.items ≡ []
  pub sent_room : sent.spare ≡ length s.came + ports_of t.setup
  pub nothing_noted : note.items ≡ []
  pub note_room : note.spare ≡ length s.came + 2 * ports_of t.setup

module _ {t : Tables} {s : Scheduled} {first : EngineView} {sent : RoomView Departure} {note : RoomView Transfer}
    (made : IsMade t s first sent note) where
  -- it can run from slot 0 on
  pub can_begin : IsReadyOn (map machine_from first.fixed) s.came first sent note
  can_begin =
      let on = goes_from (fresh_engine (ports_of t.setup) first.fixed (openings_of t.setup) (by_port is_from t s.came)
      (by_port is_to t s.came) t.limits) sent note made.fit in
      let none = zero_fits (2 ^ 64 - 1) t.limits in
      rw made.fresh.fresh (search (arith, rules, on, length-replicate, empty_list, nothing_for, none, machine_count))

  -- what it has run is the run of the tables
  pub run_is_kept : (run : PackedFabricRun) → HasKept (map machine_from first.fixed) s.came first sent note run →
      IsKeptOf t s.came (unpacked_run run)
  run_is_kept run kept =
      let it = resumes machine_from t s _ sent note made.fresh.machines refl run (rw made.fresh.fresh at kept) in
      search (arith, rules, common_steps, figures_fold, counts_more t.limits [])

  -- and where it has none, the ideal switch has none
  pub no_run : (why : RunRefusal) → IsRefusalOn (map machine_from first.fixed) s.came first why →
      IsRefusalOf (ideal_departures t s.came) why
  unfolding ideal_departures ran_ideal
  no_run (refusal.Tag fault) stop =
      let alike = best_act_alike_from_empty t.limits (machines_of t.setup) in
      ap departures_limited (limited_whole_fault t.limits (machines_of t.setup) (ports_of t.setup) (openings_of t.setup)
      s.came stop.count fault (search (arith, rules, slots_fit)))
  no_run refusal.NoMemory stop = tt

-- What a run says that goes on from where a run was taken up: what it kept.

module _ (t : Tables) (s : Scheduled) (first : EngineView) (taken : Taken)
    (is : GoesOnFrom t s.came taken.frozen first) where
  pub resumed_of : (sent : RoomView Departure) (note : RoomView Transfer) (run : PackedFabricRun) →
      HasKept (map machine_from first.fixed) s.came first sent note run → sent.items ≡ taken.sent →
      note.items ≡ taken.note → IsResumed (switch_of t s) taken (kept_of (unpacked_run run))
  resumed_of sent note run kept sent_was note_was =
      let limits = ap (λ (e : EngineView). e.limits) is.stands in
      search (arith, rules, resumes machine_from t s first sent note is.machines limits run kept, is.stands)
