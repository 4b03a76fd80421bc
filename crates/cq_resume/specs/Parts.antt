-- A run that is stopped and goes on is the run.
use Rattle.std.specs.Prelude.{◌≡◌, ℕ, ◌<◌, ◌^◌, List, [], length}
use Rattle.cq_base.specs.declared.cell.TagFault.{TagFault}
use Rattle.cq_ideal.specs.Admission.{Marked}
use Rattle.cq_ideal.specs.Ending.{arriving_from}
use Rattle.cq_ideal.specs.Refused.{refused_counts}
use Rattle.cq_laws.specs.Fabric.{Fabric}
use Rattle.cq_laws.specs.Frozen.{marked_in}
use Rattle.cq_laws.specs.LimitedFabric.{LimitedRecord, empty_limited_fabric}
use Rattle.cq_laws.specs.Measures.{no_figures}
use Rattle.cq_resume.specs.Resumed.{IsResumed, IsResumedFault, Kept, Runs, RunsOn, Stops, kept_in, kept_on}
use Rattle.cq_resume.specs.Switch.{Switch}
use Rattle.cq_resume.specs.declared.taken.Taken.{Taken}

-- nothing was kept yet of this switch
abbrev pub nothing_kept : Switch → Kept
nothing_kept w =
    record {
      sent = [];
      note = [];
      figures = no_figures (length w.machines);
      refused = refused_counts w.limits [];
    }

-- where a run of this switch begins, with these opening states of its machines
abbrev pub opening : Switch → List (List ℕ) → Marked Fabric
opening w ranks = empty_limited_fabric (length w.machines) ranks

-- the state after so many slots of a run from there, with what was kept of them
pub record IsParted (w : Switch) (ranks : List (List ℕ)) (slots : ℕ) (at : Taken) : Type 0 where
  pub records : List LimitedRecord
  pub next : at.frozen.next ≡ slots
  pub runs : Runs w 0 (arriving_from w.came 0 slots) (opening w ranks) records (marked_in at.frozen)
  pub kept : kept_in at ≡ kept_on (nothing_kept w) 0 records

-- one of these slots meets this tag fault
abbrev pub IsPartedFault : Switch → List (List ℕ) → ℕ → TagFault → Type 0
IsPartedFault w ranks slots fault =
    (records : List LimitedRecord) × Stops w 0 (arriving_from w.came 0 slots) (opening w ranks) records fault

-- After so many slots there is one answer at most: the run stands in one state with one thing kept, or met one tag
-- fault, and never both.
pub record IsOneParted : Type 0 where
  pub at : (w : Switch) (ranks : List (List ℕ)) (slots : ℕ) (a b : Taken) → IsParted w ranks slots a →
      IsParted w ranks slots b → a ≡ b
  pub fault : (w : Switch) (ranks : List (List ℕ)) (slots : ℕ) (u v : TagFault) → IsPartedFault w ranks slots u →
      IsPartedFault w ranks slots v → u ≡ v
  pub never_both : (w : Switch) (ranks : List (List ℕ)) (slots : ℕ) (at : Taken) (u : TagFault) →
      IsParted w ranks slots at → IsPartedFault w ranks slots u → ⊥

-- the whole run, by what it keeps
pub record IsWhole (w : Switch) (ranks : List (List ℕ)) (kept : Kept) : Type 0 where
  pub records : List LimitedRecord
  pub end : Marked Fabric
  pub runs : RunsOn w 0 (opening w ranks) records end
  pub kept_is : kept ≡ kept_on (nothing_kept w) 0 records

-- it meets this tag fault
pub record IsWholeFault (w : Switch) (ranks : List (List ℕ)) (fault : TagFault) : Type 0 where
  pub count : ℕ
  pub records : List LimitedRecord
  pub stops : Stops w 0 (arriving_from w.came 0 count) (opening w ranks) records fault

-- From the state after any number of slots the resumed run keeps what the whole run keeps, or meets the tag fault
-- that it meets; and it meets no other. Where it comes to its end, so does the whole run.
pub record PartsJoin : Type 0 where
  pub run : (w : Switch) (ranks : List (List ℕ)) (slots : ℕ) (at : Taken) (kept whole : Kept) →
      slots < 2 ^ 63 → IsParted w ranks slots at → IsResumed w at kept → IsWhole w ranks whole → kept ≡ whole
  pub resumes : (w : Switch) (ranks : List (List ℕ)) (slots : ℕ) (at : Taken) (whole : Kept) →
      slots < 2 ^ 63 → IsParted w ranks slots at → IsWhole w ranks whole → IsResumed w at whole
  pub whole : (w : Switch) (ranks : List (List ℕ)) (slots : ℕ) (at : Taken) (kept : Kept) →
      slots < 2 ^ 63 → IsParted w ranks slots at → IsResumed w at kept → IsWhole w ranks kept
  pub fault : (w : Switch) (ranks : List (List ℕ)) (slots : ℕ) (at : Taken) (fault : TagFault) →
      slots < 2 ^ 63 → IsParted w ranks slots at → IsWholeFault w ranks fault → IsResumedFault w at fault
  pub whole_fault : (w : Switch) (ranks : List (List ℕ)) (slots : ℕ) (at : Taken) (fault : TagFault) →
      slots < 2 ^ 63 → IsParted w ranks slots at → IsResumedFault w at fault → IsWholeFault w ranks fault
