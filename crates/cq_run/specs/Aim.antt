-- What a command that is not refused aims at, and which plans meet it. What the crossbar switch does is no function
-- here: it is the one run of its definition, in which both matchings of each slot are the input-best ones.
use Rattle.std.specs.Prelude.{◌≡◌, ℕ, List}
use Rattle.cq_base.specs.declared.cell.Departure.{Departure}
use Rattle.cq_cells.specs.Schedule.{arrivals}
use Rattle.cq_laws.specs.LimitedFabric.{LimitedRecord}
use Rattle.cq_pcap.specs.Captured.{Captured}
use Rattle.cq_resume.specs.Resumed.{Kept}
use Rattle.cq_route.specs.declared.tables.Tables.{Tables}
use Rattle.cq_simulate.specs.FabricRuns.{IsFabricRun}
use Rattle.cq_run.specs.Plan.{Plan, audited, crossed, reported, resumed, file_alone}
use Rattle.cq_run.specs.Auditing.{IsAuditYes, IsDenied}
use Rattle.cq_run.specs.Parting.{IsPartRefusal, IsPartText, IsResumeRefusal, IsResumedText}
use Rattle.cq_run.specs.declared.refusal.Refusal.{Refusal}
use Rattle.cq_run.specs.declared.refusal.Refusal.TheVariants.{Audit}

-- what a command that is not refused aims at
pub data Aim : Type 0 where
  -- this plan
  Exactly : Plan → Aim
  -- what the crossbar switch does with the packets of these captures, of which the ideal switch sends this
  Crossing : Tables → List (List Captured) → List Departure → Aim
  -- the report of what the crossbar switch does with the packets of these captures
  Reporting : Tables → List (List Captured) → Aim
  -- a yes to this trace and this log of a switch with the packets of these captures, of which the ideal switch sends
  -- this
  Auditing : Tables → List (List Captured) → List Departure → (trace log : List ℕ) → Aim
  -- the text, under this name, of the state of the crossbar switch after so many slots with the packets of these
  -- captures
  Parting : Tables → List (List Captured) → (slots : ℕ) → (name : List ℕ) → Aim
  -- what the crossbar switch does with the packets of these captures, where it goes on from the state of this text
  Resuming : Tables → List (List Captured) → (text : List ℕ) → Aim

-- the plan meets the aim
abbrev pub Meets : Aim → Plan → Type 0
Meets (Exactly plan) p = p ≡ plan
Meets (Crossing t captures sent) p =
    (rs : List LimitedRecord) × IsFabricRun t (arrivals t captures) rs × (p ≡ crossed t captures sent rs)
Meets (Reporting t captures) p =
    (rs : List LimitedRecord) × IsFabricRun t (arrivals t captures) rs × (p ≡ reported t rs)
Meets (Auditing t captures sent trace log) p = IsAuditYes t captures sent trace log × (p ≡ audited)
Meets (Parting t captures slots name) p =
    (text : List ℕ) × IsPartText t captures slots text × (p ≡ file_alone name text)
Meets (Resuming t captures text) p = (kept : Kept) × IsResumedText t captures text kept × (p ≡ resumed t captures kept)

-- why no plan meets an aim: the no of an audit, and why there is no text of a state or no run from one. Every other
-- aim is met by a plan
abbrev pub Denies : Aim → Refusal → Type 0
Denies (Auditing t captures sent trace log) (Audit denial) = IsDenied t captures sent trace log denial
Denies (Parting t captures slots name) refusal = IsPartRefusal t captures slots refusal
Denies (Resuming t captures text) refusal = IsResumeRefusal t captures text refusal
Denies _ _ = ⊥
