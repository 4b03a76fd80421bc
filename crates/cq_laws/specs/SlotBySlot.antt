-- Runs of a switch, slot by slot. The traffic is what arrives in each slot.
use Rattle.std.specs.Prelude.{◌≡◌, ℕ, ◌+◌, List, [], ◌∷◌, ◌++◌, length, take, drop, Option}
use Rattle.cq_base.specs.Arriving.{Arrival}
use Rattle.cq_base.specs.declared.cell.Cell.{Cell}
use Rattle.cq_base.specs.declared.cell.TagFault.{TagFault}
use Rattle.cq_ideal.specs.Ending.{IsEnd, first_slots}

-- one record a slot, from this slot on, each from the state in which the one before it ended
abbrev pub RunBy : {S R : Type 0} → (ℕ → List (Option Cell) → S → R → S → Type 0) → ℕ → List (List (Option Cell)) →
    S → List R → S → Type 0
RunBy Step slot [] old [] new = new ≡ old
RunBy Step slot [] old (r ∷ rs) new = ⊥
RunBy Step slot (cells ∷ traffic) old [] new = ⊥
RunBy {S} Step slot (cells ∷ traffic) old (r ∷ rs) new =
    (next : S) × Step slot cells old r next × RunBy Step (slot + 1) traffic next rs new

-- the records of some slots, and then a slot with a tag fault
abbrev pub StopBy : {S R : Type 0} → (ℕ → List (Option Cell) → S → R → S → Type 0) →
    (ℕ → List (Option Cell) → S → TagFault → Type 0) → ℕ → List (List (Option Cell)) → S → List R → TagFault → Type 0
StopBy Step Fault slot [] old rs fault = ⊥
StopBy Step Fault slot (cells ∷ traffic) old [] fault = Fault slot cells old fault
StopBy {S} Step Fault slot (cells ∷ traffic) old (r ∷ rs) fault =
    (next : S) × Step slot cells old r next × StopBy Step Fault (slot + 1) traffic next rs fault

-- the first m of these records are a run of m slots, from slot 0 and this state on, that ends in s
abbrev pub AfterBy : {S R : Type 0} → (ℕ → List (Option Cell) → S → R → S → Type 0) → List Arrival → S → List R → ℕ →
    S → Type 0
AfterBy Step came start rs m s = RunBy Step 0 (first_slots came m) start (take m rs) s

-- the whole run over all cells that arrive: one record a slot, up to its end
abbrev pub WholeBy : {S R : Type 0} → (ℕ → List (Option Cell) → S → R → S → Type 0) → (S → Type 0) → List Arrival →
    S → List R → S → Type 0
WholeBy Step IsEmpty came start rs end = IsEnd came (AfterBy Step came start rs) IsEmpty (length rs) end

-- runs on end are a run: where one ended another goes on, or one slot more, or a run that stops
pub record GoOn {S R : Type 0} (Step : ℕ → List (Option Cell) → S → R → S → Type 0)
    (Fault : ℕ → List (Option Cell) → S → TagFault → Type 0) : Type 0 where
  pub run : (slot : ℕ) (before after : List (List (Option Cell))) (f g h : S) (rs ss : List R) →
      RunBy Step slot before f rs g → RunBy Step (slot + length before) after g ss h →
      RunBy Step slot (before ++ after) f (rs ++ ss) h
  pub slot : (slot : ℕ) (before : List (List (Option Cell))) (cells : List (Option Cell)) (f g h : S) (rs : List R)
      (r : R) →
      RunBy Step slot before f rs g → Step (slot + length before) cells g r h →
      RunBy Step slot (before ++ cells ∷ []) f (rs ++ r ∷ []) h
  pub stop : (slot : ℕ) (before after : List (List (Option Cell))) (f g : S) (rs ss : List R) (fault : TagFault) →
      RunBy Step slot before f rs g → StopBy Step Fault (slot + length before) after g ss fault →
      StopBy Step Fault slot (before ++ after) f (rs ++ ss) fault

-- a run is two on end: the first slots of it are a run, and where that ended the others go on
pub record HasParts {S R : Type 0} (Step : ℕ → List (Option Cell) → S → R → S → Type 0) (slot : ℕ)
    (before after : List (List (Option Cell))) (f : S) (rs : List R) (h : S) : Type 0 where
  pub middle : S
  pub first : RunBy Step slot before f (take (length before) rs) middle
  pub second : RunBy Step (slot + length before) after middle (drop (length before) rs) h

-- every run is two on end, wherever it is cut
abbrev pub HaveParts : {S R : Type 0} → (ℕ → List (Option Cell) → S → R → S → Type 0) → Type 0
HaveParts {S} {R} Step =
    (slot : ℕ) (before after : List (List (Option Cell))) (f h : S) (rs : List R) →
    RunBy Step slot (before ++ after) f rs h → HasParts Step slot before after f rs h

-- what is a slot, a run, a whole run or a run that stops by one of two ways to step is one by the other too
pub record AreAlso {S R : Type 0} (Step Other : ℕ → List (Option Cell) → S → R → S → Type 0)
    (Fault : ℕ → List (Option Cell) → S → TagFault → Type 0) (IsEmpty : S → Type 0) : Type 0 where
  pub slot : (slot : ℕ) (cells : List (Option Cell)) (f g : S) (r : R) → Step slot cells f r g →
      Other slot cells f r g
  pub run : (slot : ℕ) (traffic : List (List (Option Cell))) (f g : S) (rs : List R) →
      RunBy Step slot traffic f rs g → RunBy Other slot traffic f rs g
  pub whole : (came : List Arrival) (start end : S) (rs : List R) →
      WholeBy Step IsEmpty came start rs end → WholeBy Other IsEmpty came start rs end
  pub stop : (slot : ℕ) (traffic : List (List (Option Cell))) (f : S) (rs : List R) (fault : TagFault) →
      StopBy Step Fault slot traffic f rs fault → StopBy Other Fault slot traffic f rs fault

-- there is one run, if there is one: its records, and its end or its tag fault
pub record IsOneRun {S R : Type 0} (Step : ℕ → List (Option Cell) → S → R → S → Type 0)
    (Fault : ℕ → List (Option Cell) → S → TagFault → Type 0) : Type 0 where
  pub slot : (slot : ℕ) (cells : List (Option Cell)) (f g h : S) (r s : R) → Step slot cells f r g →
      Step slot cells f s h → (r ≡ s) × (g ≡ h)
  pub run : (slot : ℕ) (traffic : List (List (Option Cell))) (f g h : S) (rs ss : List R) →
      RunBy Step slot traffic f rs g → RunBy Step slot traffic f ss h → (rs ≡ ss) × (g ≡ h)
  pub stop : (slot : ℕ) (traffic : List (List (Option Cell))) (f : S) (rs ss : List R) (u v : TagFault) →
      StopBy Step Fault slot traffic f rs u → StopBy Step Fault slot traffic f ss v → (rs ≡ ss) × (u ≡ v)
  pub never_both : (slot : ℕ) (traffic : List (List (Option Cell))) (f g : S) (rs ss : List R) (fault : TagFault) →
      RunBy Step slot traffic f rs g → StopBy Step Fault slot traffic f ss fault → ⊥
