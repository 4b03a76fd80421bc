-- Whole runs, slot by slot from states that agree. The empty states agree, so what holds of agreeing states holds
-- from the first slot on.
use Rattle.cq_laws.proofs.Terms.{common_steps, rules, ◌≡◌, ℕ, ◌+◌, ◌↔◌, List, [], ◌∷◌, length, Option, Some, Err, ap, ◌∙◌, arith, All, slice_get, replicate, AllByRecursion, length-replicate, get_or_past, get_or_default, cases_lt, Cell, Queued, TagFault, Machine, AreForPorts, IsStable, Fabric, IsAmong, next_slot, empty_fabric, IsEmptyFabric, HasSlack, SlotRecord, FabricRun, FabricStops, IsEmptyIdeal, ideal_run, empty_ideal, list_of, RunsAlike, none_had, IdealState, Agrees}
use Rattle.cq_laws.proofs.OneSlot.{same_fault, same_slot, slack_arrived, ports_kept}

module _ (ms : List Machine) (class_count : ℕ) where
  pub same_run : (slot : ℕ) (traffic : List (List (Option Cell))) (f g : Fabric) (ideal : IdealState)
      (rs : List SlotRecord) → Agrees slot f ideal →
      AllByRecursion (AreForPorts (length f.inputs) class_count) traffic → FabricRun IsStable ms slot traffic f rs g →
      RunsAlike ms slot traffic ideal rs g
  unfolding ideal_run
  same_run slot (cells ∷ traffic) f g ideal (r ∷ rs) agrees come run =
      let one = same_slot ms slot class_count cells f run.0 ideal r agrees come.0 run.1 in
      search (arith, rules, ports_kept, same_run (slot + 1) traffic run.0 g one.next rs one.agrees)
  same_run slot traffic f g ideal rs agrees come run = grind (arith, common_steps)

  pub same_stop : (slot : ℕ) (traffic : List (List (Option Cell))) (f : Fabric) (ideal : IdealState)
      (rs : List SlotRecord) (fault : TagFault) → Agrees slot f ideal →
      AllByRecursion (AreForPorts (length f.inputs) class_count) traffic →
      FabricStops IsStable ms slot traffic f rs fault → ideal_run ms slot traffic ideal ≡ Err fault
  unfolding ideal_run
  same_stop slot [] f ideal rs fault agrees come run = absurd run
  same_stop slot (cells ∷ traffic) f ideal [] fault agrees come run =
      ap (next_slot ms (slot + 1) traffic) ((same_fault ms slot cells f ideal fault agrees).1 run)
  same_stop slot (cells ∷ traffic) f ideal (r ∷ rs) fault agrees come run =
      let one = same_slot ms slot class_count cells f run.0 ideal r agrees come.0 run.1 in
      search (arith, rules, ports_kept, same_stop (slot + 1) traffic run.0 one.next rs fault one.agrees)

  -- after the arrivals of each slot no input thread is greater than its cushion
  pub run_slack : (slot : ℕ) (traffic : List (List (Option Cell))) (f g : Fabric) (ideal : IdealState)
      (rs : List SlotRecord) → Agrees slot f ideal →
      AllByRecursion (AreForPorts (length f.inputs) class_count) traffic → FabricRun IsStable ms slot traffic f rs g →
      AllByRecursion (λ r. HasSlack 0 r.arrived) rs
  run_slack slot (cells ∷ traffic) f g ideal (r ∷ rs) agrees come run =
      let one = same_slot ms slot class_count cells f run.0 ideal r agrees come.0 run.1 in
      grind (arith, slack_arrived, ports_kept, run_slack (slot + 1) traffic run.0 g one.next rs one.agrees)
  run_slack slot traffic f g ideal rs agrees come run = grind (arith, common_steps)

-- ## States that agree are empty together

-- in lists that are all empty there is no cell, and lists without one are all empty
none_in : (lists : List (List Queued)) → All (λ cells. cells ≡ []) lists → (i : ℕ) (c : Queued) →
    IsAmong c (list_of lists i) → ⊥
none_in lists empty i c h = grind (arith, common_steps, get_or_past, cases_lt)

all_empty : (lists : List (List Queued)) → ((i : ℕ) (c : Queued) → IsAmong c (list_of lists i) → ⊥) →
    All (λ cells. cells ≡ []) lists
all_empty lists none i d inside = get_or_default lists i d [] inside ∙ none_had (list_of lists i) (none i)

pub empty_together : (slot : ℕ) (f : Fabric) (ideal : IdealState) → Agrees slot f ideal →
    IsEmptyFabric f ↔ IsEmptyIdeal ideal
empty_together slot f ideal agrees = (
  λ empty. search (arith, rules, all_empty, none_in f.inputs, none_in f.buffers, agrees.same),
  λ empty. record {
    inputs = all_empty f.inputs (λ i c h. search (rules, none_in ideal.lists empty c.cell.output c, agrees.same));
    buffers = search (arith, rules, all_empty, none_in, agrees.same);
  },
)

-- ## The empty states agree

pub empty_list : (n i : ℕ) → list_of (replicate n []) i ≡ []
empty_list n i = grind (arith, common_steps)

module _ (ports : ℕ) (ranks : List (List ℕ)) where
  pub no_place : (i t : ℕ) (c : Queued) → slice_get (list_of (replicate ports []) i) t ≡ Some c → ⊥
  no_place i t c h = cc (empty_list ports i)

  -- without cells they agree, whatever the slot
  pub empty_agree_at : (slot : ℕ) → Agrees slot (empty_fabric ports ranks) (empty_ideal ports ranks)
  empty_agree_at slot = search (arith, rules, empty_list, no_place)

  pub empty_agree : Agrees 0 (empty_fabric ports ranks) (empty_ideal ports ranks)
  empty_agree = empty_agree_at 0

  pub traffic_for_empty : (class_count : ℕ) (traffic : List (List (Option Cell))) →
      AllByRecursion (AreForPorts ports class_count) traffic →
      AllByRecursion (AreForPorts (length (empty_fabric ports ranks).inputs) class_count) traffic
  traffic_for_empty class_count traffic h = grind (arith, common_steps, length-replicate)

  -- so over any slots the ideal switch runs beside the fabric
  pub run_beside : (ms : List Machine) (class_count : ℕ) (traffic : List (List (Option Cell))) (rs : List SlotRecord)
      (g : Fabric) → AllByRecursion (AreForPorts ports class_count) traffic →
      FabricRun IsStable ms 0 traffic (empty_fabric ports ranks) rs g →
      RunsAlike ms 0 traffic (empty_ideal ports ranks) rs g
  run_beside ms class_count traffic rs g come run =
      search (rules, same_run ms class_count, empty_agree, traffic_for_empty)
