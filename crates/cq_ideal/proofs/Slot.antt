-- A slot is what the parts do one after the other: the arrivals are judged, those that are admitted are ranked and go
-- into the lists, and then the outputs send.
use Rattle.cq_ideal.proofs.Terms.{◌≡◌, ℕ, ◌+◌, ◌<◌, ◌^◌, Bool, false, List, length, map, get_or, Option, Ok, refl, ap, arith, common_steps, get_or-map, Cell, Queued, Departure, RoomView, Machine, class_count, Admission, admission, admitted, refused, IdealSwitch, SpareFollows, marked_state, IdealState, ideal_slot, ideal_sends, filled, fronts, rests, limited_slot, with_admission, HoldsLists, LimiterView, AreParts, AreWithinRooms, CameToPorts, FitTogether, RanksView, QueuesView, AllArrivedBefore, HaveOwnKeys, HaveRoomFor, state_of, AreForPorts, Ranking, ranking, rules, other_key_newest}
use Rattle.cq_ideal.specs.OneSlot.{CanHaveSlot}
use Rattle.cq_ideal.specs.Taking.{CanTakeIn, HasJudged, HasTakenIn}
use Rattle.cq_ideal.proofs.Admitted.{admitted_for_ports}
use Rattle.cq_ideal.proofs.Came.{came_from, arrived_next, fit_same}
use Rattle.cq_ideal.proofs.Waiting.{holds_filled, came_for, counted, length-filled, sent_from}
use Rattle.cq_ideal.proofs.Counting.{each_once}

-- ## Slots with limits

-- what becomes of these arrivals, where these marks are up after the slot
abbrev pub by_marks : List Bool → List (Option Cell) → Admission
by_marks marks cells = record { cells = admitted marks cells; refused = refused marks cells; marks = marks }

-- the switch of these parts
abbrev pub seen : RanksView → QueuesView → LimiterView → ℕ → Bool → IdealSwitch
seen ranks queues limiter next stopped =
    record {
      fixed = ranks.fixed;
      limits = limiter.limits;
      state = state_of ranks queues;
      marks = limiter.marks;
      refused = limiter.refused;
      rooms = queues.rooms;
      next = next;
      stopped = stopped;
    }

-- ## What is known where a slot begins

pub record Begun (M : List ℕ → Machine) (slot : ℕ) (cells : List (Option Cell)) (v : IdealSwitch) (ranks : RanksView)
    (queues : QueuesView) (old : LimiterView) (room : RoomView Departure) : Type 0 where
  pub fixed : ranks.fixed ≡ v.fixed
  pub state : state_of ranks queues ≡ v.state
  pub rooms : queues.rooms ≡ v.rooms
  pub limits : old.limits ≡ v.limits
  pub marks : old.marks ≡ v.marks
  pub refused : old.refused ≡ v.refused
  pub parts : AreParts (map M ranks.fixed) ranks queues old slot false
  pub can : CanHaveSlot (map M v.fixed) slot cells v room

-- what is known once what was admitted of them is in the lists
pub record Placed (M : List ℕ → Machine) (slot : ℕ) (cells : List (Option Cell)) (v : IdealSwitch) (queues : QueuesView)
    (judged : LimiterView) (ranks_new : RanksView) (queues_new : QueuesView) : Type 0 where
  pub fit : FitTogether (map M ranks_new.fixed) ranks_new queues_new
  pub holds : HoldsLists queues_new.lists judged
  pub arrived : AllArrivedBefore (slot + 1) (rests queues_new.lists)
  pub limited_ok : limited_slot v.limits (map M v.fixed) slot cells (marked_state v)
      ≡ with_admission (by_marks judged.marks cells)
      (Ok (sent_from (map M ranks_new.fixed) (state_of ranks_new queues_new)))
  pub spare : (new : IdealSwitch) → AreWithinRooms queues → new.rooms ≡ queues.rooms →
      new.state ≡ (sent_from (map M ranks_new.fixed) (state_of ranks_new queues_new)).after →
      SpareFollows (admitted judged.marks cells) (fronts queues_new.lists) v new

-- ## What follows

module _ {M : List ℕ → Machine} {slot : ℕ} {cells : List (Option Cell)} {v : IdealSwitch} {ranks : RanksView}
    {queues : QueuesView} {old : LimiterView} {room : RoomView Departure}
    (known : Begun M slot cells v ranks queues old room) where
  lists_are : queues.lists ≡ v.state.lists
  lists_are = ap (λ (s : IdealState). s.lists) known.state

  comes : AreForPorts (length (map M ranks.fixed)) (class_count (map M ranks.fixed)) cells
  comes = grind (arith, common_steps)

  -- its arrivals can be taken in
  pub can_take_in : AreWithinRooms queues → ((j : ℕ) → get_or queues.rooms j 0 < 2 ^ 64) →
      CanTakeIn (map M ranks.fixed) cells old
  can_take_in within few = grind (arith, common_steps, comes, lists_are, get_or-map length queues.lists)

  module _ {judged : LimiterView} (judges : HasJudged cells old judged) where
    pub judged_slot : limited_slot v.limits (map M v.fixed) slot cells (marked_state v)
        ≡ with_admission (by_marks judged.marks cells) (ideal_sends (map M ranks.fixed) (state_of ranks queues)
        (ranking (map M ranks.fixed) slot 0 (admitted judged.marks cells) ranks.states))
    unfolding limited_slot admission ideal_slot
    judged_slot = let lists = lists_are in grind (arith, common_steps)

    module _ {ranks_new : RanksView} {came : List (Option Queued)}
        (taken : HasTakenIn (map M ranks.fixed) slot cells ranks ranks_new old judged came) where
      abbrev r : Ranking
      r = record { came = came; ranks = ranks_new.states }

      -- The cells come to the ports, the lists have room for them, and each has its own key: what waits arrived in an
      -- earlier slot, and no other cell comes at its input.
      pub can_arrive : CameToPorts (length queues.lists) came × HaveRoomFor came queues × HaveOwnKeys came queues.lists
      can_arrive =
          let for = admitted_for_ports _ _ judged.marks cells comes in
          let from = came_from (map M ranks.fixed) slot 0 (admitted judged.marks cells) ranks.states r taken.ranked in
          let count = came_for (map M ranks.fixed) slot (admitted judged.marks cells) ranks.states r taken.ranked in (
            grind (arith, common_steps, known.parts.fit.lists, for.inputs, from, for.outputs),
            λ j inside. search (arith, rules, each_once, lists_are, count j),
            search (arith, rules, other_key_newest, from, known.parts.arrived),
          )

      pub placed : (queues_new : QueuesView) → queues_new.lists ≡ filled came queues.lists →
          queues_new.rooms ≡ queues.rooms → ranks_new.fixed ≡ ranks.fixed →
          length ranks_new.states ≡ length ranks.states → Placed M slot cells v queues judged ranks_new queues_new
      unfolding ideal_slot
      placed queues_new lists rooms same many =
          let limits = ap length judges.limits in
          let ranked = taken.ranked in
          let sent = sent_from (map M ranks_new.fixed) (state_of ranks_new queues_new) in
          let ok : ideal_slot (map M v.fixed) slot (admitted judged.marks cells) v.state ≡ Ok sent =
          grind (arith, common_steps) in
          let numbers = counted (map M v.fixed) slot (admitted judged.marks cells) v.state sent ok in
          record {
            fit = grind (arith, common_steps, fit_same, length-filled);
            holds = holds_filled came (admitted judged.marks cells) queues.lists queues_new.lists old judged
                (known.parts.holds refl) lists judges.limits (omega arith) judges.held
                (came_for (map M ranks.fixed) slot (admitted judged.marks cells) ranks.states r taken.ranked);
            arrived = rw lists (arrived_next (map M ranks.fixed) slot (admitted judged.marks cells) ranks.states r
                taken.ranked queues.lists known.parts.arrived);
            limited_ok = cc (judged_slot, taken.ranked);
            spare = search (arith, rules, each_once, lists_are, numbers);
          }
