-- Whole runs with limits, slot by slot from states that agree, and the runs without limits that they are: those of
-- what their own records say was admitted, which are the arrivals that the ideal switch admits.
use Rattle.cq_laws.proofs.Terms.{common_steps, rules, ◌≡◌, ℕ, ◌+◌, List, [], ◌∷◌, length, Option, Err, refl, arith, AllByRecursion, Cell, TagFault, Machine, IdealState, AreForPorts, Partners, IsStable, FabricRun, FabricStops, Fabric, LimitedRecord, LimitedFabricRun, LimitedFabricStops, admissions_in, slots_in, empty_limited_fabric, HasSlack, limited_run, admitted_traffic, empty_limited, admitted_step, admitted_are, Orders, LimitedAgrees, LimitedRunsAlike, AreJudged, Marked, whole_packets, IsRunOfRecorded}
use Rattle.cq_laws.proofs.LimitedSlots.{same_admission, same_limited_fault, same_limited_slot, limited_ports_kept, limited_slack_arrived}
use Rattle.cq_laws.proofs.WholeRuns.{empty_agree, traffic_for_empty}

module _ (MayChoose : Orders → Partners → Type 0) where
  pub recorded : IsRunOfRecorded MayChoose
  recorded limits ms slot (cells ∷ traffic) f g (r ∷ rs) run =
      (run.0.state, run.1.runs, recorded limits ms (slot + 1) traffic run.0 g rs run.2)
  recorded limits ms slot traffic f g rs run = grind (arith, common_steps)

module _ (limits : List (Option ℕ)) (ms : List Machine) (class_count : ℕ) where
  -- the states agree, and what still arrives is for the ports
  pub record Stands (slot : ℕ) (traffic : List (List (Option Cell))) (f : Marked Fabric) (ideal : Marked IdealState) :
      Type 0 where
    pub agrees : LimitedAgrees slot f ideal
    pub come : AllByRecursion (AreForPorts (length f.state.inputs) class_count) traffic

  -- ## They act alike

  pub same_limited_run : (slot : ℕ) (traffic : List (List (Option Cell))) (f g : Marked Fabric)
      (ideal : Marked IdealState) (rs : List LimitedRecord) → Stands slot traffic f ideal →
      LimitedFabricRun IsStable limits ms slot traffic f rs g → LimitedRunsAlike limits ms slot traffic ideal rs g
  unfolding limited_run
  same_limited_run slot (cells ∷ traffic) f g ideal (r ∷ rs) s run =
      let one = same_limited_slot limits ms slot class_count cells f run.0 ideal r s.agrees s.come.0 run.1 in
      search (arith, rules, limited_ports_kept, same_limited_run (slot + 1) traffic run.0 g one.next rs)
  same_limited_run slot traffic f g ideal rs s run = grind (arith, common_steps)

  pub same_limited_stop : (slot : ℕ) (traffic : List (List (Option Cell))) (f : Marked Fabric)
      (ideal : Marked IdealState) (rs : List LimitedRecord) (fault : TagFault) → Stands slot traffic f ideal →
      LimitedFabricStops IsStable limits ms slot traffic f rs fault →
      limited_run limits ms slot traffic ideal ≡ Err fault
  unfolding limited_run
  same_limited_stop slot [] f ideal rs fault s run = absurd run
  same_limited_stop slot (cells ∷ traffic) f ideal [] fault s run =
      grind (arith, common_steps, same_limited_fault limits ms slot cells f ideal fault s.agrees)
  same_limited_stop slot (cells ∷ traffic) f ideal (r ∷ rs) fault s run =
      let one = same_limited_slot limits ms slot class_count cells f run.0 ideal r s.agrees s.come.0 run.1 in
      search (arith, rules, limited_ports_kept, same_limited_stop (slot + 1) traffic run.0 one.next rs fault)

  -- after the arrivals of each slot no input thread is greater than its cushion
  pub limited_run_slack : (slot : ℕ) (traffic : List (List (Option Cell))) (f g : Marked Fabric)
      (ideal : Marked IdealState) (rs : List LimitedRecord) → Stands slot traffic f ideal →
      LimitedFabricRun IsStable limits ms slot traffic f rs g → AllByRecursion (λ r. HasSlack 0 r.of_slot.arrived) rs
  limited_run_slack slot (cells ∷ traffic) f g ideal (r ∷ rs) s run =
      let one = same_limited_slot limits ms slot class_count cells f run.0 ideal r s.agrees s.come.0 run.1 in
      search (arith, rules, limited_slack_arrived, limited_ports_kept, limited_run_slack (slot + 1) traffic run.0)
  limited_run_slack slot traffic f g ideal rs s run = grind (arith, common_steps)

  -- ## They are runs of what is admitted

  pub run_through : (slot : ℕ) (traffic : List (List (Option Cell))) (f g : Marked Fabric) (ideal : Marked IdealState)
      (rs : List LimitedRecord) → Stands slot traffic f ideal →
      LimitedFabricRun IsStable limits ms slot traffic f rs g →
      FabricRun IsStable ms slot (admitted_traffic limits ms slot traffic ideal) f.state (slots_in rs) g.state
  run_through slot traffic f g ideal rs s run =
      let alike = same_limited_run slot traffic f g ideal rs s run in
      rw (admitted_are limits ms slot traffic ideal _ alike.ran) (recorded IsStable limits ms slot traffic f g rs run)

  pub stop_through : (slot : ℕ) (traffic : List (List (Option Cell))) (f : Marked Fabric) (ideal : Marked IdealState)
      (rs : List LimitedRecord) (fault : TagFault) → Stands slot traffic f ideal →
      LimitedFabricStops IsStable limits ms slot traffic f rs fault →
      FabricStops IsStable ms slot (admitted_traffic limits ms slot traffic ideal) f.state (slots_in rs) fault
  unfolding admitted_traffic
  stop_through slot [] f ideal rs fault s run = absurd run
  stop_through slot (cells ∷ traffic) f ideal [] fault s run = cc (same_admission limits slot cells f ideal s.agrees)
  stop_through slot (cells ∷ traffic) f ideal (r ∷ rs) fault s run =
      let one = same_limited_slot limits ms slot class_count cells f run.0 ideal r s.agrees s.come.0 run.1 in
      let step = admitted_step limits ms slot cells traffic ideal _ one.sent in
      search (arith, rules, step, limited_ports_kept, stop_through (slot + 1) traffic run.0 one.next rs fault)

-- ## Each slot is judged, and the empty states agree

pub fabric_judged : (MayChoose : Orders → Partners → Type 0) (limits : List (Option ℕ)) (ms : List Machine) (slot : ℕ)
    (traffic : List (List (Option Cell))) (f g : Marked Fabric) (rs : List LimitedRecord) →
    LimitedFabricRun MayChoose limits ms slot traffic f rs g → AreJudged limits f.marks traffic (admissions_in rs)
fabric_judged MayChoose limits ms slot (cells ∷ traffic) f g (r ∷ rs) run =
    grind (arith, common_steps, fabric_judged MayChoose limits ms (slot + 1) traffic run.0 g rs run.2)
fabric_judged MayChoose limits ms slot traffic f g rs run = grind (arith, common_steps)

pub limited_empty_agree : (ports : ℕ) (ranks : List (List ℕ)) →
    LimitedAgrees 0 (empty_limited_fabric ports ranks) (empty_limited ports ranks)
limited_empty_agree ports ranks = record { states = empty_agree ports ranks; marks = refl }

pub begin : (limits : List (Option ℕ)) (ms : List Machine) (class_count ports : ℕ) (ranks : List (List ℕ))
    (traffic : List (List (Option Cell))) → AllByRecursion (AreForPorts ports class_count) traffic →
    Stands limits ms class_count 0 traffic (empty_limited_fabric ports ranks) (empty_limited ports ranks)
begin limits ms class_count ports ranks traffic come = search (rules, limited_empty_agree, traffic_for_empty)

-- so over any slots the ideal switch runs beside the fabric
pub limited_beside : (limits : List (Option ℕ)) (ms : List Machine) (ports class_count : ℕ) (ranks : List (List ℕ))
    (traffic : List (List (Option Cell))) (rs : List LimitedRecord) (g : Marked Fabric) →
    AllByRecursion (AreForPorts ports class_count) traffic →
    LimitedFabricRun IsStable limits ms 0 traffic (empty_limited_fabric ports ranks) rs g →
    LimitedRunsAlike limits ms 0 traffic (empty_limited ports ranks) rs g
limited_beside limits ms ports class_count ranks traffic rs g come run =
    search (arith, rules, same_limited_run limits ms class_count, begin limits ms class_count)

pub ruleset admitted_steps = (recorded, run_through, stop_through, whole_packets, fabric_judged)
