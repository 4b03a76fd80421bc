-- What the parts of an engine show of what a slot asks. It is asked of the engine as clauses see it. Moved to the
-- parts it is one record, and what is known once the arrivals are taken in is another, which the lemmas take.
use Rattle.cq_engine.proofs.Terms.{common_steps, rules, ◌≡◌, ◌<◌, ◌≤◌, ◌^◌, ℕ, Bool, false, List, Option, length, map, get_or, arith, length-map, Cell, Figures, Queued, Machine, class_count, admitted, CanCount, LimiterView, AreForPorts, list_of, Queues, fabric_of, admitted_room, numbers_fit, AreRanked, BuffersHaveRoom, ListsHaveRoom, Departure, Transfer, RoomView, EngineView, IsReadyFor, IsRunning, ports_of, Look, CanTakeIn, HasTakenIn, RanksView, admitted_arrives, admitted_for_ports, HaveJudged, HasJudged, marks_after, refused, with_refused, ap}

-- what is seen of these parts
abbrev pub seen : List (List ℕ) → List (List ℕ) → Queues → LimiterView → Figures → ℕ → Bool → EngineView
seen fixed states q l x next stopped =
    record {
      fixed = fixed;
      limits = l.limits;
      fabric = fabric_of q states;
      marks = l.marks;
      refused = l.refused;
      from_inputs = q.from_inputs;
      to_outputs = q.to_outputs;
      figures = x;
      next = next;
      stopped = stopped;
    }

-- ## What is known where a slot begins

-- what is asked of an engine, as it is of its parts
pub record Begun (ms : List Machine) (slot : ℕ) (cells : List (Option Cell)) (q : Queues) (states : List (List ℕ))
    (l : LimiterView) (looks : Look) (x : Figures) : Type 0 where
  pub running : IsRunning ms slot looks x (fabric_of q states) l
  pub come : AreForPorts (length ms) (class_count ms) cells
  pub list_room : ListsHaveRoom q cells
  pub buffer_room : BuffersHaveRoom (length ms) q cells
  pub refused : CanCount (length l.limits) l.refused

module _ (M : List ℕ → Machine) (v : EngineView) (fixed states : List (List ℕ)) (q : Queues) (l : LimiterView)
    (x : Figures) (next : ℕ) (looks : Look) (stopped : Bool) (is : seen fixed states q l x next stopped ≡ v)
    (invariant : stopped ≡ false → IsRunning (map M fixed) next looks x (fabric_of q states) l) where
  pub up : (slot : ℕ) → slot ≡ v.next → v.stopped ≡ false → IsRunning (map M fixed) slot looks x (fabric_of q states) l
  up slot now running = grind (arith, common_steps)

  pub begun : (slot : ℕ) (cells : List (Option Cell)) {sent : RoomView Departure} {note : RoomView Transfer} →
      v.stopped ≡ false → slot ≡ v.next → AreForPorts (ports_of v) (class_count (map M v.fixed)) cells →
      IsReadyFor cells v sent note → Begun (map M fixed) slot cells q states l looks x
  begun slot cells running now come ready = search (rules, up, length-map)

-- ## What follows

module _ {ms : List Machine} {slot : ℕ} {cells : List (Option Cell)} {q : Queues} {states : List (List ℕ)}
    {l : LimiterView} {looks : Look} {x : Figures} (known : Begun ms slot cells q states l looks x) where
  -- its arrivals can be taken in: the numbers of cells that outputs hold stay below 2^64
  pub can_take_in : ((j : ℕ) → length (list_of q.buffers j) ≤ get_or q.to_outputs j 0) →
      ((j : ℕ) → get_or q.to_outputs j 0 < 2 ^ 64) → CanTakeIn ms cells l
  can_take_in within fits = grind (arith, common_steps, numbers_fit)

-- ## Once the arrivals are taken in

-- they are judged, and those that are admitted have their keys, and there is room for them
pub record Taken (ms : List Machine) (slot : ℕ) (arrivals : List (Option Cell)) (q : Queues) (states : List (List ℕ))
    (l : LimiterView) (looks : Look) (x : Figures) (came : List (Option Queued)) (states' : List (List ℕ))
    (l' : LimiterView) : Type 0 where
  pub running : IsRunning ms slot looks x (fabric_of q states) l
  pub ranked : AreRanked ms slot q states (admitted l'.marks arrivals) (class_count ms) came states'
  pub list_room : ListsHaveRoom q (admitted l'.marks arrivals)
  pub buffer_room : BuffersHaveRoom (length ms) q (admitted l'.marks arrivals)
  pub judged : HaveJudged (admitted l'.marks arrivals) l l'
  pub marks : l'.marks ≡ marks_after l.limits l.held l.marks arrivals
  pub refused : l'.refused ≡ with_refused (refused l'.marks arrivals) l.refused

pub taken : {ms : List Machine} {slot : ℕ} {cells : List (Option Cell)} {q : Queues} {l l' : LimiterView} {looks : Look}
    {x : Figures} {ranks ranks' : RanksView} {came : List (Option Queued)} →
    Begun ms slot cells q ranks.states l looks x → HasJudged cells l l' →
    HasTakenIn ms slot cells ranks ranks' l l' came →
    Taken ms slot cells q ranks.states l looks x came ranks'.states l'
taken known judged did =
    search (arith, rules, admitted_for_ports, admitted_arrives, known.list_room, admitted_room, ap length judged.limits)

-- an engine that has not stopped
pub ruleset running_steps = (up, length-map)
