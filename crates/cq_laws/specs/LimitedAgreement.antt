-- When a fabric with limits agrees with an ideal switch with limits, and what it is that they send and refuse the same.
use Rattle.std.specs.Prelude.{◌≡◌, ℕ, ◌+◌, ◌↔◌, List, length, Option, Ok, Err}
use Rattle.std.specs.List.{AllByRecursion}
use Rattle.cq_base.specs.Arriving.{Arrival}
use Rattle.cq_base.specs.declared.cell.Cell.{Cell}
use Rattle.cq_base.specs.declared.cell.TagFault.{TagFault}
use Rattle.cq_rank.specs.Machine.{Machine}
use Rattle.cq_ideal.specs.Admission.{Marked}
use Rattle.cq_ideal.specs.Ending.{first_slots}
use Rattle.cq_ideal.specs.IdealSlot.{IdealState}
use Rattle.cq_ideal.specs.LimitedEnding.{LimitedIdealEnds}
use Rattle.cq_ideal.specs.LimitedIdeal.{LimitedRan, empty_limited, limited_slot, limited_run}
use Rattle.cq_ideal.specs.Ranking.{AreForPorts}
use Rattle.cq_ideal.specs.Refused.{refused_counts, refused_in}
use Rattle.cq_prefs.specs.Orders.{Orders}
use Rattle.cq_prefs.specs.Pairing.{Partners}
use Rattle.cq_laws.specs.Agreement.{Agrees}
use Rattle.cq_laws.specs.Fabric.{Fabric}
use Rattle.cq_laws.specs.LimitedFabric.{LimitedRecord, LimitedFabricSlot, LimitedFabricRun, LimitedFabricStops, IsLimitedFault, admissions_in, empty_limited_fabric, slots_in}
use Rattle.cq_laws.specs.Records.{gone_in}

-- the states agree, and the marks are equal
pub record LimitedAgrees (slot : ℕ) (f : Marked Fabric) (ideal : Marked IdealState) : Type 0 where
  pub states : Agrees slot f.state ideal.state
  pub marks : f.marks ≡ ideal.marks

-- in this slot the ideal switch admits, refuses and sends what the record says, and then agrees with the fabric
pub record ActsAlike (limits : List (Option ℕ)) (ms : List Machine) (slot : ℕ) (cells : List (Option Cell))
    (ideal : Marked IdealState) (r : LimitedRecord) (f : Marked Fabric) : Type 0 where
  pub next : Marked IdealState
  pub sent : limited_slot limits ms slot cells ideal
      ≡ Ok (record { admission = r.admission; gone = r.of_slot.gone; after = next })
  pub agrees : LimitedAgrees (slot + 1) f next

-- in the slots from this one on it admits, refuses and sends what these records say, and then agrees with the fabric
pub record LimitedRunsAlike (limits : List (Option ℕ)) (ms : List Machine) (slot : ℕ)
    (traffic : List (List (Option Cell))) (ideal : Marked IdealState) (rs : List LimitedRecord) (f : Marked Fabric) :
    Type 0 where
  pub after : Marked IdealState
  pub ran : limited_run limits ms slot traffic ideal
      ≡ Ok (record { admissions = admissions_in rs; gone = gone_in (slots_in rs); after = after })
  pub agrees : LimitedAgrees (slot + length traffic) f after

-- Whatever the limits: from states that agree both switches act alike in a slot, or have the same tag fault, and so
-- they do over whole runs.
pub record ActAlike (MayChoose : Orders → Partners → Type 0) (limits : List (Option ℕ)) (ms : List Machine) : Type 0
  where
    pub slot : (slot class_count : ℕ) (cells : List (Option Cell)) (f g : Marked Fabric) (ideal : Marked IdealState)
        (r : LimitedRecord) →
        LimitedAgrees slot f ideal → AreForPorts (length f.state.inputs) class_count cells →
        LimitedFabricSlot MayChoose limits ms slot cells f r g → ActsAlike limits ms slot cells ideal r g
    pub fault : (slot : ℕ) (cells : List (Option Cell)) (f : Marked Fabric) (ideal : Marked IdealState)
        (fault : TagFault) →
        LimitedAgrees slot f ideal →
        (limited_slot limits ms slot cells ideal ≡ Err fault) ↔ IsLimitedFault limits ms slot cells f fault
    pub run : (slot class_count : ℕ) (traffic : List (List (Option Cell))) (f g : Marked Fabric)
        (ideal : Marked IdealState) (rs : List LimitedRecord) →
        LimitedAgrees slot f ideal → AllByRecursion (AreForPorts (length f.state.inputs) class_count) traffic →
        LimitedFabricRun MayChoose limits ms slot traffic f rs g → LimitedRunsAlike limits ms slot traffic ideal rs g
    pub stop : (slot class_count : ℕ) (traffic : List (List (Option Cell))) (f : Marked Fabric)
        (ideal : Marked IdealState) (rs : List LimitedRecord) (fault : TagFault) →
        LimitedAgrees slot f ideal → AllByRecursion (AreForPorts (length f.state.inputs) class_count) traffic →
        LimitedFabricStops MayChoose limits ms slot traffic f rs fault →
        limited_run limits ms slot traffic ideal ≡ Err fault

-- So they do from states without cells and with all marks down on: the ideal run ends as that of the fabric does, or
-- at the same fault, and as many packets and cells are refused in both at each output.
pub record ActAlikeFromEmpty (MayChoose : Orders → Partners → Type 0) (limits : List (Option ℕ)) (ms : List Machine) :
    Type 0 where
  pub run : (ports class_count : ℕ) (ranks : List (List ℕ)) (traffic : List (List (Option Cell)))
      (rs : List LimitedRecord) (g : Marked Fabric) →
      AllByRecursion (AreForPorts ports class_count) traffic →
      LimitedFabricRun MayChoose limits ms 0 traffic (empty_limited_fabric ports ranks) rs g →
      LimitedRunsAlike limits ms 0 traffic (empty_limited ports ranks) rs g
  pub stop : (ports class_count : ℕ) (ranks : List (List ℕ)) (traffic : List (List (Option Cell)))
      (rs : List LimitedRecord) (fault : TagFault) →
      AllByRecursion (AreForPorts ports class_count) traffic →
      LimitedFabricStops MayChoose limits ms 0 traffic (empty_limited_fabric ports ranks) rs fault →
      limited_run limits ms 0 traffic (empty_limited ports ranks) ≡ Err fault
  pub refused : (ports class_count : ℕ) (ranks : List (List ℕ)) (traffic : List (List (Option Cell)))
      (rs : List LimitedRecord) (g : Marked Fabric) (ran : LimitedRan) →
      AllByRecursion (AreForPorts ports class_count) traffic →
      LimitedFabricRun MayChoose limits ms 0 traffic (empty_limited_fabric ports ranks) rs g →
      limited_run limits ms 0 traffic (empty_limited ports ranks) ≡ Ok ran →
      refused_counts limits (refused_in (admissions_in rs)) ≡ refused_counts limits (refused_in ran.admissions)

-- ## Whole runs

-- The ideal switch ends after as many slots as these records are, and admits, refuses and sends what they say. Then
-- both agree.
pub record LimitedEndsAlike (limits : List (Option ℕ)) (ms : List Machine) (came : List Arrival)
    (ideal : Marked IdealState) (rs : List LimitedRecord) (f : Marked Fabric) : Type 0 where
  pub after : Marked IdealState
  pub ends : LimitedIdealEnds limits ms came ideal (length rs) after
  pub ran : limited_run limits ms 0 (first_slots came (length rs)) ideal ≡ Ok (record {
    admissions = admissions_in rs;
    gone = gone_in (slots_in rs);
    after = after;
  })
  pub agrees : LimitedAgrees (length rs) f after
