-- A run with input-best matchings is a run with stable ones, for each input-best matching is stable. A whole run is a
-- whole one too: the records tell which matchings were chosen, so no run of theirs with stable ones is over sooner.
use Rattle.cq_laws.proofs.Terms.{common_steps, arith, ℕ, List, Option, rules, ◌+◌, ◌∷◌, Arrival, Cell, TagFault, Machine, Marked, IsStable, IsInputBest, Fabric, IsEmptyFabric, SlotRecord, FabricSlot, IsFault, LimitedRecord, LimitedFabricSlot, IsLimitedFault, AreAlso, RunBy, StopBy, WholeBy, AfterBy}
use Rattle.cq_laws.proofs.Parted.{ends_with}

-- ## Where each slot of one kind is one of another, so are runs

module _ {S R : Type 0} (Step Step' : ℕ → List (Option Cell) → S → R → S → Type 0)
    (Fault : ℕ → List (Option Cell) → S → TagFault → Type 0) (each : (slot : ℕ) (cells : List (Option Cell)) (f g : S)
    (r : R) → Step slot cells f r g → Step' slot cells f r g) where
  pub each_run : (slot : ℕ) (traffic : List (List (Option Cell))) (f g : S) (rs : List R) →
      RunBy Step slot traffic f rs g → RunBy Step' slot traffic f rs g
  each_run slot (cells ∷ traffic) f g (r ∷ rs) run = search (rules, each_run (slot + 1) traffic run.0 g rs run.2)
  each_run slot traffic f g rs run = run

  pub each_stop : (slot : ℕ) (traffic : List (List (Option Cell))) (f : S) (rs : List R) (fault : TagFault) →
      StopBy Step Fault slot traffic f rs fault → StopBy Step' Fault slot traffic f rs fault
  each_stop slot (cells ∷ traffic) f (r ∷ rs) fault run = search (rules, each_stop (slot + 1) traffic run.0 rs)
  each_stop slot traffic f rs fault run = run

  -- ## And so are whole runs, where the record of a slot tells of which kind it is

  module _ (told : (slot : ℕ) (cells : List (Option Cell)) (f f' g g' : S) (r : R) → Step slot cells f r g →
      Step' slot cells f' r g' → Step slot cells f' r g') where
    same_kind : (slot : ℕ) (traffic : List (List (Option Cell))) (f f' g g' : S) (rs : List R) →
        RunBy Step slot traffic f rs g → RunBy Step' slot traffic f' rs g' → RunBy Step slot traffic f' rs g'
    same_kind slot (cells ∷ traffic) f f' g g' (r ∷ rs) x y =
        search (rules, told slot cells f f' x.0 y.0 r x.1 y.1, same_kind (slot + 1) traffic x.0 y.0 g g' rs x.2 y.2)
    same_kind slot traffic f f' g g' rs x y = grind (arith, common_steps)

    pub each_whole : (IsEmpty : S → Type 0) (came : List Arrival) (start end : S) (rs : List R) →
        WholeBy Step IsEmpty came start rs end → WholeBy Step' IsEmpty came start rs end
    each_whole IsEmpty came start end rs w =
        ends_with Step came start rs IsEmpty (AfterBy Step' came start rs) IsEmpty end end w
        (each_run 0 _ start end _ w.after) w.empty (λ m u v lt late x y over. search (arith, rules, w.first, same_kind))

    pub are_also : (IsEmpty : S → Type 0) → AreAlso Step Step' Fault IsEmpty
    are_also IsEmpty = record { slot = each; run = each_run; whole = each_whole IsEmpty; stop = each_stop }

module _ (ms : List Machine) where
  pub stable_slot : (slot : ℕ) (cells : List (Option Cell)) (f g : Fabric) (r : SlotRecord) →
      FabricSlot IsInputBest ms slot cells f r g → FabricSlot IsStable ms slot cells f r g
  stable_slot slot cells f g r s = grind (arith, common_steps)

  -- which matchings were chosen is told by the record
  pub stable_too : AreAlso (FabricSlot IsInputBest ms) (FabricSlot IsStable ms) (IsFault ms) IsEmptyFabric
  stable_too = search (arith, rules, are_also, stable_slot)

  -- ## The same with limits

  module _ (limits : List (Option ℕ)) where
    pub stable_limited_slot : (slot : ℕ) (cells : List (Option Cell)) (f g : Marked Fabric) (r : LimitedRecord) →
        LimitedFabricSlot IsInputBest limits ms slot cells f r g →
        LimitedFabricSlot IsStable limits ms slot cells f r g
    stable_limited_slot slot cells f g r s = grind (arith, common_steps, stable_slot)

    pub stable_limited_too : AreAlso (LimitedFabricSlot IsInputBest limits ms) (LimitedFabricSlot IsStable limits ms)
        (IsLimitedFault limits ms) (λ f. IsEmptyFabric f.state)
    stable_limited_too = search (arith, rules, are_also, stable_limited_slot)
