-- There is one run with input-best matchings. The cells of a slot have one ranking, and it says what each list is
-- after they arrived. The offers of a state have one input-best matching, and a transfer says what each list and each
-- buffer is after it, as does a departure. So each state of a slot is one, and by induction the states and records of
-- a run.
pub use Rattle.cq_prefs.proofs.InputOrder.{outputs_at}
use Rattle.cq_laws.proofs.Terms.{common_steps, arith, rules, ◌≡◌, ℕ, List, [], ◌∷◌, Option, Some, refl, sym, ◌∙◌, ⊎_elim, ◌+◌, ext_get_or, Cell, Queued, TagFault, Machine, Marked, Fabric, Arrives, Transfers, Departs, SlotRecord, FabricSlot, IsFault, IsOneRun, LimitedRecord, LimitedFabricSlot, IsLimitedFault, partner_of, HasCellFor, list_of, orders_of, RunBy, StopBy, is_output_order, one_input_best, Partners, IsStable, IsInputBest}
use Rattle.cq_laws.proofs.AfterPhases.{sender}

-- ## Where a state and what arrives leave no choice in a slot, they leave none in a run

module _ {S R : Type 0} (Step : ℕ → List (Option Cell) → S → R → S → Type 0)
    (Fault : ℕ → List (Option Cell) → S → TagFault → Type 0) where
  -- a slot has one record and one end, or one fault
  pub record LeavesNoChoice : Type 0 where
    pub slot : (slot : ℕ) (cells : List (Option Cell)) (f g h : S) (r s : R) → Step slot cells f r g →
        Step slot cells f s h → (r ≡ s) × (g ≡ h)
    pub fault : (slot : ℕ) (cells : List (Option Cell)) (f : S) (u v : TagFault) → Fault slot cells f u →
        Fault slot cells f v → u ≡ v
    pub never_both : (slot : ℕ) (cells : List (Option Cell)) (f g : S) (r : R) (u : TagFault) →
        Step slot cells f r g → Fault slot cells f u → ⊥

  module _ (no : LeavesNoChoice) where
    run_once : (slot : ℕ) (traffic : List (List (Option Cell))) (f g h : S) (rs ss : List R) →
        RunBy Step slot traffic f rs g → RunBy Step slot traffic f ss h → (rs ≡ ss) × (g ≡ h)
    run_once slot [] f g h [] [] x y = (refl, x ∙ sym y)
    run_once slot (cells ∷ traffic) f g h (r ∷ rs) (s ∷ ss) x y =
        grind (arith, common_steps, run_once (slot + 1) traffic x.0 g h rs ss x.2)
    run_once slot traffic f g h rs ss x y = grind (arith, common_steps)

    stop_once : (slot : ℕ) (traffic : List (List (Option Cell))) (f : S) (rs ss : List R) (u v : TagFault) →
        StopBy Step Fault slot traffic f rs u → StopBy Step Fault slot traffic f ss v → (rs ≡ ss) × (u ≡ v)
    stop_once slot (cells ∷ traffic) f (r ∷ rs) (s ∷ ss) u v x y =
        grind (arith, common_steps, stop_once (slot + 1) traffic x.0 rs ss u v x.2)
    stop_once slot traffic f rs ss u v x y = grind (arith, common_steps, no.fault, no.never_both)

    run_or_stop : (slot : ℕ) (traffic : List (List (Option Cell))) (f g : S) (rs ss : List R) (fault : TagFault) →
        RunBy Step slot traffic f rs g → StopBy Step Fault slot traffic f ss fault → ⊥
    run_or_stop slot (cells ∷ traffic) f g (r ∷ rs) (s ∷ ss) fault x y =
        grind (arith, common_steps, run_or_stop (slot + 1) traffic x.0 g rs ss fault x.2)
    run_or_stop slot traffic f g rs ss fault x y = grind (arith, common_steps, no.never_both)

    pub one_of_each : IsOneRun Step Fault
    one_of_each = record { slot = no.slot; run = run_once; stop = stop_once; never_both = run_or_stop }

-- ## One state after each phase

pub one_arrival : (ms : List Machine) (slot : ℕ) (cells : List (Option Cell)) (c d : List (Option Queued))
    (old a b : Fabric) → Arrives ms slot cells c old a → Arrives ms slot cells d old b → (c ≡ d) × (a ≡ b)
one_arrival ms slot cells c d old a b x y = search (arith, rules, ext_get_or [] a.inputs b.inputs)

-- an input that has a partner has a cell for it
pub offer_of : (lists : List (List Queued)) (m : Partners) → IsStable (orders_of lists) m → (i j : ℕ) →
    partner_of m i ≡ Some j → HasCellFor (list_of lists i) j
offer_of lists m stable i j e =
    search (arith, rules, is_output_order (list_of lists i), outputs_at lists i, stable.matching.offered i j e)

pub one_transfer : (m : Partners) (old a b : Fabric) → IsStable (orders_of old.inputs) m → Transfers m old a →
    Transfers m old b → a ≡ b
one_transfer m old a b stable x y =
    let buffers = ext_get_or [] a.buffers b.buffers (x.moves.ports.1 ∙ sym y.moves.ports.1) (λ j _. ⊎_elim (λ r.
    let f = offer_of old.inputs m stable r.0 j r.1 in
    cc (x.moves.given r.0 j f.0 r.1 f.1, y.moves.given r.0 j f.0 r.1 f.1))
    (λ none. cc (x.moves.kept j none, y.moves.kept j none)) (sender m j)) in
    search (arith, rules, ext_get_or [] a.inputs b.inputs)

pub one_departure : (ms : List Machine) (u v : List (Option Queued)) (a b c d : Fabric) → a ≡ b → Departs ms u a c →
    Departs ms v b d → (u ≡ v) × (c ≡ d)
one_departure ms u v a b c d e x y = grind (arith, common_steps)

-- ## One slot

pub same_record : (a b : SlotRecord) → a.slot ≡ b.slot → a.came ≡ b.came → a.arrived ≡ b.arrived → a.first ≡ b.first →
    a.filled ≡ b.filled → a.gone ≡ b.gone → a.sent ≡ b.sent → a.second ≡ b.second → a ≡ b
same_record a b e1 e2 e3 e4 e5 e6 e7 e8 = grind (arith, common_steps)

pub one_slot : (ms : List Machine) (slot : ℕ) (cells : List (Option Cell)) (f g g' : Fabric) (r r' : SlotRecord) →
    FabricSlot IsInputBest ms slot cells f r g → FabricSlot IsInputBest ms slot cells f r' g' → (r ≡ r') × (g ≡ g')
one_slot ms slot cells f g g' r r' x y =
    let arrive = one_arrival ms slot cells r.came r'.came f r.arrived r'.arrived x.arrive y.arrive in
    let first = one_input_best (orders_of r.arrived.inputs) r.first r'.first x.first_chosen in
    let filled = one_transfer r.first r.arrived r.filled r'.filled x.first_chosen.stable x.fill in
    let depart = one_departure ms r.gone r'.gone r.filled r'.filled r.sent r'.sent in
    let second = one_input_best (orders_of r.sent.inputs) r.second r'.second x.second_chosen in
    let finish = one_transfer r.second r.sent g g' x.second_chosen.stable x.finish in
    grind (arith, common_steps, same_record r r', first, filled, depart, second, finish)

-- ## One run

module _ (ms : List Machine) where
  pub no_choice : LeavesNoChoice (FabricSlot IsInputBest ms) (IsFault ms)
  no_choice = grind (arith, common_steps, one_slot ms)

  pub only_run : IsOneRun (FabricSlot IsInputBest ms) (IsFault ms)
  only_run = one_of_each (FabricSlot IsInputBest ms) (IsFault ms) no_choice

  -- ## The same with limits

  module _ (limits : List (Option ℕ)) where
    one_limited_slot : (slot : ℕ) (cells : List (Option Cell)) (f g h : Marked Fabric) (r s : LimitedRecord) →
        LimitedFabricSlot IsInputBest limits ms slot cells f r g →
        LimitedFabricSlot IsInputBest limits ms slot cells f s h → (r ≡ s) × (g ≡ h)
    one_limited_slot slot cells f g h r s x y =
        search (arith, rules, one_slot ms slot r.admission.cells f.state g.state h.state r.of_slot s.of_slot x.runs)

    pub only_limited_run : IsOneRun (LimitedFabricSlot IsInputBest limits ms) (IsLimitedFault limits ms)
    only_limited_run =
        one_of_each (LimitedFabricSlot IsInputBest limits ms) (IsLimitedFault limits ms)
        (record { slot = one_limited_slot; fault = search (rules, no_choice.fault); never_both = search rules })
