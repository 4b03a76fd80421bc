-- The fabric where outputs have limits: what is admitted of a slot's arrivals goes through the slot without limits.
-- It differs from the ideal switch only in where it counts what an output holds.
use Rattle.std.specs.Prelude.{◌≡◌, ℕ, Bool, List, [], ◌∷◌, map, Option}
use Rattle.cq_base.specs.Arriving.{Arrival}
use Rattle.cq_base.specs.declared.cell.Cell.{Cell}
use Rattle.cq_base.specs.declared.cell.TagFault.{TagFault}
use Rattle.cq_rank.specs.Machine.{Machine}
use Rattle.cq_ideal.specs.Admission.{Admission, Marked, admission, admitted_in, nothing_refused, unmarked}
use Rattle.cq_prefs.specs.Orders.{Orders}
use Rattle.cq_prefs.specs.Pairing.{Partners}
use Rattle.cq_laws.specs.Fabric.{Fabric, IsEmptyFabric, empty_fabric}
use Rattle.cq_laws.specs.FabricRun.{FabricRun, IsFault}
use Rattle.cq_laws.specs.FabricSlot.{SlotRecord, FabricSlot}
use Rattle.cq_laws.specs.Holding.{fabric_held}
use Rattle.cq_laws.specs.SlotBySlot.{RunBy, StopBy, WholeBy}

-- what the fabric admits of a slot's arrivals
abbrev pub fabric_admission : List (Option ℕ) → List (Option Cell) → Marked Fabric → Admission
fabric_admission limits cells old = admission limits (fabric_held old.state) old.marks cells

-- what is recorded of a slot: the admission, and the slot of the admitted cells
pub record LimitedRecord : Type 0 where
  pub admission : Admission
  pub of_slot : SlotRecord

-- one slot: the admitted cells go through it, and the admission says which marks are up after it
pub record LimitedFabricSlot (MayChoose : Orders → Partners → Type 0) (limits : List (Option ℕ)) (ms : List Machine)
    (slot : ℕ) (cells : List (Option Cell)) (old : Marked Fabric) (r : LimitedRecord) (new : Marked Fabric) : Type 0
  where
    pub admits : r.admission ≡ fabric_admission limits cells old
    pub runs : FabricSlot MayChoose ms slot r.admission.cells old.state r.of_slot new.state
    pub marks : new.marks ≡ r.admission.marks

-- the first rank of an admitted cell that does not fit is the tag fault of the slot
abbrev pub IsLimitedFault : List (Option ℕ) → List Machine → ℕ → List (Option Cell) → Marked Fabric → TagFault → Type 0
IsLimitedFault limits ms slot cells old fault =
    IsFault ms slot (fabric_admission limits cells old).cells old.state fault

-- one record a slot, from this slot on, each from the state in which the one before it ended
abbrev pub LimitedFabricRun : (Orders → Partners → Type 0) → List (Option ℕ) → List Machine → ℕ →
    List (List (Option Cell)) → Marked Fabric → List LimitedRecord → Marked Fabric → Type 0
LimitedFabricRun MayChoose limits ms slot traffic old rs new =
    RunBy (LimitedFabricSlot MayChoose limits ms) slot traffic old rs new

-- the records of some slots, and then a slot with a tag fault
abbrev pub LimitedFabricStops : (Orders → Partners → Type 0) → List (Option ℕ) → List Machine → ℕ →
    List (List (Option Cell)) → Marked Fabric → List LimitedRecord → TagFault → Type 0
LimitedFabricStops MayChoose limits ms slot traffic old rs fault =
    StopBy (LimitedFabricSlot MayChoose limits ms) (IsLimitedFault limits ms) slot traffic old rs fault

-- the whole run over all cells that arrive: one record a slot, up to the last in which a cell arrives, waits or leaves
abbrev pub LimitedWholeRun : (Orders → Partners → Type 0) → List (Option ℕ) → List Machine → List Arrival →
    Marked Fabric → List LimitedRecord → Marked Fabric → Type 0
LimitedWholeRun MayChoose limits ms came start rs end =
    WholeBy (LimitedFabricSlot MayChoose limits ms) (λ f. IsEmptyFabric f.state) came start rs end

-- nothing waits, all marks are down, and the rank machines are in these states
abbrev pub empty_limited_fabric : ℕ → List (List ℕ) → Marked Fabric
empty_limited_fabric ports ranks = unmarked ports (empty_fabric ports ranks)

-- what was judged in each slot
abbrev pub admissions_in : List LimitedRecord → List Admission
admissions_in rs = map (λ r. r.admission) rs

-- and what went through it
abbrev pub slots_in : List LimitedRecord → List SlotRecord
slots_in rs = map (λ r. r.of_slot) rs

-- a run with limits is a run without, of what its own records say was admitted
abbrev pub IsRunOfRecorded : (Orders → Partners → Type 0) → Type 0
IsRunOfRecorded MayChoose =
    (limits : List (Option ℕ)) (ms : List Machine) (slot : ℕ) (traffic : List (List (Option Cell)))
    (f g : Marked Fabric) (rs : List LimitedRecord) →
    LimitedFabricRun MayChoose limits ms slot traffic f rs g →
    FabricRun MayChoose ms slot (admitted_in (admissions_in rs)) f.state (slots_in rs) g.state

-- the records of slots in which nothing was refused, with these marks
abbrev pub passed : List Bool → List (List (Option Cell)) → List SlotRecord → List LimitedRecord
passed marks [] rs = []
passed marks (cells ∷ traffic) [] = []
passed marks (cells ∷ traffic) (r ∷ rs) =
    record { admission = nothing_refused marks cells; of_slot = r } ∷ passed marks traffic rs
