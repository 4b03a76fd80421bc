-- Where nothing is refused a slot with limits is the slot without, and no mark moves; so it is with runs. Nothing is
-- refused where no output has a limit and no mark is up, nor where nothing arrives.
use Rattle.cq_laws.proofs.Terms.{common_steps, arith, rules, ◌≡◌, ℕ, ◌+◌, Bool, List, [], ◌∷◌, replicate, Option, refl, sym, AllByRecursion, Cell, TagFault, no_arrivals, Machine, Partners, Fabric, FabricRun, FabricStops, SlotRecord, FabricSlot, LimitedRecord, LimitedFabricSlot, LimitedFabricRun, LimitedFabricStops, slots_in, passed, RefusesNone, marked, nothing_refused, none_in, Orders, fabric_held, Marked, none_refused_in}

module _ (MayChoose : Orders → Partners → Type 0) (limits : List (Option ℕ)) (ms : List Machine) (marks : List Bool)
  where
    -- ## One slot

    pub slot_with : (slot : ℕ) (cells : List (Option Cell)) (f : Fabric) → RefusesNone limits marks cells →
        (r : SlotRecord) (g : Fabric) → FabricSlot MayChoose ms slot cells f r g →
        LimitedFabricSlot MayChoose limits ms slot cells (marked marks f)
        (record { admission = nothing_refused marks cells; of_slot = r }) (marked marks g)
    slot_with slot cells f none r g step = record { admits = sym (none (fabric_held f)); runs = step; marks = refl }

    -- ## Runs

    -- nothing is refused in any slot
    abbrev None_in : List (List (Option Cell)) → Type 0
    None_in traffic = AllByRecursion (RefusesNone limits marks) traffic

    pub run_without : (slot : ℕ) (traffic : List (List (Option Cell))) (f : Fabric) (rs : List LimitedRecord)
        (g : Marked Fabric) → None_in traffic →
        LimitedFabricRun MayChoose limits ms slot traffic (marked marks f) rs g →
        FabricRun MayChoose ms slot traffic f (slots_in rs) g.state × (rs ≡ passed marks traffic (slots_in rs)) ×
        (g ≡ marked marks g.state)
    run_without slot [] f [] g none run = grind (arith, common_steps)
    run_without slot (cells ∷ traffic) f (r ∷ rs) g none run =
        search (rules, run_without (slot + 1) traffic run.0.state rs g none.1)
    run_without slot traffic f rs g none run = absurd run

    pub run_with : (slot : ℕ) (traffic : List (List (Option Cell))) (f g : Fabric) (rs : List SlotRecord) →
        None_in traffic → FabricRun MayChoose ms slot traffic f rs g →
        LimitedFabricRun MayChoose limits ms slot traffic (marked marks f) (passed marks traffic rs) (marked marks g)
    run_with slot (cells ∷ traffic) f g (r ∷ rs) none run =
        grind (arith, common_steps, slot_with, run_with (slot + 1) traffic run.0 g rs none.1 run.2)
    run_with slot traffic f g rs none run = grind (arith, common_steps)

    pub stop_without : (slot : ℕ) (traffic : List (List (Option Cell))) (f : Fabric) (rs : List LimitedRecord)
        (fault : TagFault) → None_in traffic →
        LimitedFabricStops MayChoose limits ms slot traffic (marked marks f) rs fault →
        FabricStops MayChoose ms slot traffic f (slots_in rs) fault
    stop_without slot (cells ∷ traffic) f rs fault none run =
        grind (arith, common_steps, stop_without (slot + 1) traffic)
    stop_without slot traffic f rs fault none run = grind (arith, common_steps)

    -- ## Slots without arrivals

    pub none_come : (count : ℕ) → None_in (replicate count no_arrivals)
    none_come count = search (rules, none_in)

pub ruleset unrefused_steps = (run_without, run_with, stop_without, none_refused_in)
