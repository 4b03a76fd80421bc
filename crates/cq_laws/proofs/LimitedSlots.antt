-- One slot with limits, from states that agree. Each output holds equally many cells in both, so both judge the
-- arrivals alike. What is admitted is for the ports, as the arrivals are, and goes through the slot without limits:
-- there both send the same or have the same fault, and the states agree again.
use Rattle.cq_laws.proofs.Terms.{rules, arith, ◌≡◌, ℕ, ◌↔◌, Bool, List, length, Option, Err, ◌∙◌, common_steps, Cell, TagFault, Machine, IdealState, AreForPorts, IsStable, Fabric, LimitedRecord, LimitedFabricSlot, IsLimitedFault, fabric_admission, HasSlack, admission, ideal_admission, limited_slot, admitted_for_ports, LimitedAgrees, ActsAlike, Marked}
use Rattle.cq_laws.proofs.IdealOf.{hold_as_many}
use Rattle.cq_laws.proofs.OneSlot.{same_fault, same_slot, slack_arrived, ports_kept}

module _ (limits : List (Option ℕ)) (slot : ℕ) (cells : List (Option Cell)) (f : Marked Fabric)
    (ideal : Marked IdealState) (agrees : LimitedAgrees slot f ideal) where
  pub same_admission : fabric_admission limits cells f ≡ ideal_admission limits cells ideal
  same_admission = cc (hold_as_many slot f.state ideal.state agrees.states)

pub admission_for_ports : (limits : List (Option ℕ)) (held : List ℕ) (marks : List Bool) (cells : List (Option Cell))
    (ports class_count : ℕ) → AreForPorts ports class_count cells →
    AreForPorts ports class_count (admission limits held marks cells).cells
unfolding admission
admission_for_ports limits held marks cells ports class_count come = grind (arith, common_steps, admitted_for_ports)

pub same_limited_fault : (limits : List (Option ℕ)) (ms : List Machine) (slot : ℕ) (cells : List (Option Cell))
    (f : Marked Fabric) (ideal : Marked IdealState) (fault : TagFault) → LimitedAgrees slot f ideal →
    (limited_slot limits ms slot cells ideal ≡ Err fault) ↔ IsLimitedFault limits ms slot cells f fault
unfolding limited_slot
same_limited_fault limits ms slot cells f ideal fault agrees =
    let same = same_fault ms slot (fabric_admission limits cells f).cells f.state ideal.state fault agrees.states in
    grind (arith, common_steps, same, same_admission limits slot cells f ideal agrees)

module _ (limits : List (Option ℕ)) (ms : List Machine) (slot class_count : ℕ) (cells : List (Option Cell))
    (f g : Marked Fabric) (ideal : Marked IdealState) (r : LimitedRecord) (agrees : LimitedAgrees slot f ideal)
    (come : AreForPorts (length f.state.inputs) class_count cells)
    (step : LimitedFabricSlot IsStable limits ms slot cells f r g) where
  come_admitted : AreForPorts (length f.state.inputs) class_count r.admission.cells
  come_admitted = grind (arith, common_steps, admission_for_ports)

  pub limited_ports_kept : length g.state.inputs ≡ length f.state.inputs
  limited_ports_kept = grind (arith, common_steps, ports_kept, come_admitted)

  pub limited_slack_arrived : HasSlack 0 r.of_slot.arrived
  limited_slack_arrived = grind (arith, common_steps, slack_arrived, come_admitted)

  pub same_limited_slot : ActsAlike limits ms slot cells ideal r g
  unfolding limited_slot
  same_limited_slot =
      let one = same_slot ms slot class_count r.admission.cells f.state g.state ideal.state r.of_slot agrees.states
      come_admitted step.runs in
      record {
        next = record { state = one.next; marks = r.admission.marks };
        sent = let admits = step.admits ∙ same_admission limits slot cells f ideal agrees in search (arith, rules);
        agrees = record { states = one.agrees; marks = step.marks };
      }
