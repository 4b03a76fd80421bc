-- When a log is that of a stable run, and where it first is not that of one. A stable run is a run of the fabric in
-- which each phase takes any stable matching. A log is judged phase by phase: what its lines of a phase say of
-- cells, then whether their matching is stable, and the fabric goes on with it. Whether the run reaches a line is
-- judged at its end.
use Rattle.std.specs.Prelude.{◌≡◌, ℕ, ◌+◌, ◌≤◌, nat_lt, ◌⊎◌, List, length, filter, Option}
use Rattle.cq_base.specs.Arriving.{Arrival, arriving, end_of}
use Rattle.cq_base.specs.declared.cell.Queued.{Queued}
use Rattle.cq_base.specs.declared.cell.Transfer.{Transfer}
use Rattle.cq_ideal.specs.Admission.{Marked}
use Rattle.cq_ideal.specs.Ending.{first_slots}
use Rattle.cq_rank.specs.Machine.{Machine}
use Rattle.cq_prefs.specs.Pairing.{Partners, IsStable}
use Rattle.cq_laws.specs.Fabric.{Fabric, IsEmptyFabric}
use Rattle.cq_laws.specs.LimitedFabric.{LimitedFabricRun, LimitedFabricSlot, LimitedRecord, fabric_admission, slots_in}
use Rattle.cq_laws.specs.Phases.{Arrives, Transfers, Departs}
use Rattle.cq_laws.specs.Records.{transfers_of_run}
use Rattle.cq_laws.specs.SlotBySlot.{AfterBy, WholeBy}
use Rattle.cq_audit.specs.Phase.{IsPhaseFault, IsStableTold, in_phase}
use Rattle.cq_audit.specs.declared.phase.PhaseFault.{PhaseFault}

-- the lines of the slots before one
abbrev pub before_slot : ℕ → List Transfer → List Transfer
before_slot slot note = filter (λ t. nat_lt t.slot slot) note

-- these lines are the transfers of a stable matching in the first phase, it has moved, and the outputs have sent
pub record IsHalfPast (ms : List Machine) (slot : ℕ) (lines : List Transfer) (arrived sent : Fabric) : Type 0 where
  pub first : Partners
  pub told : IsStableTold arrived.inputs slot 1 lines first
  pub filled : Fabric
  pub fill : Transfers first arrived filled
  pub gone : List (Option Queued)
  pub depart : Departs ms gone filled sent

module _ (limits : List (Option ℕ)) (ms : List Machine) (came : List Arrival) (start : Marked Fabric) where
  -- ## A yes

  -- the whole run over all cells that arrive, with any stable matchings
  abbrev pub StableRun : List LimitedRecord → Marked Fabric → Type 0
  StableRun rs end = WholeBy (LimitedFabricSlot IsStable limits ms) (λ f. IsEmptyFabric f.state) came start rs end

  -- the transfers are those of a stable run
  pub record IsOfStableRun (note : List Transfer) : Type 0 where
    pub records : List LimitedRecord
    pub end : Marked Fabric
    pub runs : StableRun records end
    pub moved : transfers_of_run (slots_in records) ≡ note

  -- ## Where a phase begins

  -- the run is stable up to this slot, has moved what the lines before it say, and is over at no slot up to it
  pub record Reaches (note : List Transfer) (slot : ℕ) (old : Marked Fabric) : Type 0 where
    pub records : List LimitedRecord
    pub runs : LimitedFabricRun IsStable limits ms 0 (first_slots came slot) start records old
    pub moved : transfers_of_run (slots_in records) ≡ before_slot slot note
    pub goes_on : (m : ℕ) (f : Marked Fabric) → m ≤ slot →
        AfterBy (LimitedFabricSlot IsStable limits ms) came start records m f → end_of came ≤ m → IsEmptyFabric
        f.state → ⊥

  -- and the cells that are admitted in this slot have arrived
  pub record BeginsFirst (note : List Transfer) (slot : ℕ) (arrived : Fabric) : Type 0 where
    pub old : Marked Fabric
    pub reached : Reaches note slot old
    pub ranked : List (Option Queued)
    pub arrive : Arrives ms slot (fabric_admission limits (arriving came slot) old).cells ranked old.state arrived

  -- and its first phase is stable and has moved what its lines say, and the outputs have sent
  pub record BeginsSecond (note : List Transfer) (slot : ℕ) (sent : Fabric) : Type 0 where
    pub arrived : Fabric
    pub begun : BeginsFirst note slot arrived
    pub half : IsHalfPast ms slot (in_phase slot 1 note) arrived sent

  abbrev pub Begins : List Transfer → ℕ → ℕ → Fabric → Type 0
  Begins note slot phase f = ((phase ≡ 1) × BeginsFirst note slot f) ⊎ ((phase ≡ 2) × BeginsSecond note slot f)

  -- ## A no

  -- all phases before this one are stable and as the lines say, and its own lines have this fault
  pub record IsFaultAt (note : List Transfer) (slot phase : ℕ) (fault : PhaseFault) : Type 0 where
    pub fabric : Fabric
    pub begins : Begins note slot phase fabric
    pub wrong : IsPhaseFault fabric.inputs (in_phase slot phase note) fault

  -- there is a stable run that moves what the lines say up to its end, and line n, from 1, is the first behind that
  pub record IsLeftAt (note : List Transfer) (n : ℕ) : Type 0 where
    pub records : List LimitedRecord
    pub end : Marked Fabric
    pub runs : StableRun records end
    pub moved : transfers_of_run (slots_in records) ≡ before_slot (length records) note
    pub number : n ≡ length (before_slot (length records) note) + 1
    pub left : n ≤ length note
