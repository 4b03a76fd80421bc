-- The slots of the engine's trials: four ports, and how many cells there are after so many slots.
use Rattle.cq_slot_trials.proofs.Terms.{rules, ◌≡◌, ℕ, ◌+◌, ◌*◌, ◌^◌, ◌<◌, ◌≤◌, List, [], ◌∷◌, length, Option, sym, ap, subst, arith, OnOk, Result, Cell, Machine, CanCount, AreForPorts, counts_fit, zero_fits, EngineView, HasGoneOn, HaveBufferRoom, HaveListRoom, SlotDone, fresh_engine, ports_of, HasGrown}
use Rattle.cq_base.specs.declared.cell.Departure.{Departure}
use Rattle.cq_base.specs.declared.cell.Transfer.{Transfer}
use Rattle.cq_base.specs.Room.{RoomView}
use Rattle.cq_laws.proofs.InputBest.{stable_slot}
use Rattle.cq_laws.specs.Fabric.{input}
use Rattle.cq_laws.specs.Holding.{held_for}
use Rattle.cq_laws.proofs.IdealOf.{nothing_for}
use Rattle.cq_laws.proofs.WholeRuns.{empty_list}
use Rattle.cq_fabric.proofs.Kept.{lists_kept, outputs_kept}
use Rattle.cq_slot_trials.proofs.Arriving.{admitted_most, count_most, refusals_most}

-- what follows from two facts at one variant
pub on_both : {T E P Q X : Type 0} (r : Result T E) → (P → Q → X) → OnOk r P → OnOk r Q → OnOk r X
on_both r f p q = search (rules, f)

pub list_room : (e : EngineView) (cells : List (Option Cell)) (n : ℕ) → AreForPorts 4 2 cells →
    e.from_inputs ≡ 40 ∷ 40 ∷ 40 ∷ 40 ∷ [] → ((i : ℕ) → length (input e.fabric i) ≤ n) → n < 40 → HaveListRoom cells e
list_room e cells n come room few early i cell at = search (arith, rules, come.inputs)

pub buffer_room : (e : EngineView) (cells : List (Option Cell)) (n : ℕ) → length cells ≡ 64 → length e.fixed ≡ 4 →
    e.to_outputs ≡ 2560 ∷ 2560 ∷ 2560 ∷ 2560 ∷ [] → ((j : ℕ) → held_for j e.fabric ≤ 64 * n) → n < 40 →
    HaveBufferRoom cells e
buffer_room e cells n places ports room held early j inside = search (arith, rules, count_most, held)

module _ (ms : List Machine) (slot : ℕ) (cells : List (Option Cell)) (old new : EngineView)
    (sent sent' : RoomView Departure) (note note' : RoomView Transfer)
    (slot_done : SlotDone ms slot cells old new sent sent' note note') where
  pub grown_after : (n : ℕ) → length cells ≡ 64 → ports_of old ≡ 4 → HasGrown n old → HasGoneOn slot old new →
      HasGrown (n + 1) new
  grown_after n places four had went =
      let stable = stable_slot ms slot _ old.fabric new.fabric slot_done.record_of.of_slot slot_done.is_slot.runs in
      let squared = ap (λ (k : ℕ). 2 * (k * k)) four in
      let lists = lists_kept ms slot _ old.fabric new.fabric _ stable in
      let outputs = outputs_kept ms slot _ old.fabric new.fabric _ stable in
      search (arith, rules, had.lists, had.held, lists, outputs, admitted_most)

  pub counts_after : length cells ≡ 64 → (n : ℕ) → CanCount (n + 64) old.refused → CanCount n new.refused
  counts_after places n can =
      search (arith, rules, counts_fit slot_done.record_of.admission.refused n 64 old.refused can, refusals_most)

-- what it knows where it is made: no cell waits, and none is counted
module _ (ports : ℕ) (fixed states : List (List ℕ)) (from_inputs to_outputs : List ℕ) (limits : List (Option ℕ))
    (e : EngineView) (is : e ≡ fresh_engine ports fixed states from_inputs to_outputs limits) where
  pub counts_first : (n : ℕ) → n < 2 ^ 64 → CanCount n e.refused
  counts_first n few = subst (λ (v : EngineView). CanCount n v.refused) (sym is) (zero_fits n limits few)

  pub grown_first : HasGrown 0 e
  grown_first = search (arith, rules, empty_list, nothing_for)
