-- What an audit of a log answers, and when.
use Rattle.std.specs.Prelude.{◌≡◌, ◌≢◌, ℕ, ◌<◌, ◌≤◌, IsOk, List, length, Option, ⊤}
use Rattle.cq_base.specs.Arriving.{Arrival}
use Rattle.cq_base.specs.declared.cell.Transfer.{Transfer}
use Rattle.cq_base.specs.declared.setup.Setup.{Setup}
use Rattle.cq_base.specs.Limits.{most_ports}
use Rattle.cq_cells.specs.Scheduled.{Scheduled}
use Rattle.cq_cells.specs.Traffic.{IsShort, IsTraffic}
use Rattle.cq_ideal.specs.Admission.{Marked}
use Rattle.cq_ideal.specs.LimitedEnding.{whole_limited_run}
use Rattle.cq_ideal.specs.LimitedIdeal.{empty_limited}
use Rattle.cq_rank.specs.Classes.{AreClasses}
use Rattle.cq_rank.specs.Machine.{Machine}
use Rattle.cq_scfq.specs.Disciplines.{machines_of, openings_of}
use Rattle.cq_laws.specs.Fabric.{Fabric}
use Rattle.cq_laws.specs.LimitedFabric.{empty_limited_fabric}
use Rattle.cq_audit.specs.Log.{IsLog, IsLogFault}
use Rattle.cq_audit.specs.StableRun.{IsFaultAt, IsLeftAt, IsOfStableRun}
use Rattle.cq_lines.specs.declared.refusal.LineRefusal.{LineRefusal}
use Rattle.cq_lines.specs.declared.refusal.LineRefusal.TheVariants.{Line as NoLine, NoMemory as Unread}
use Rattle.cq_audit.specs.declared.phase.PhaseFault.{PhaseFault}
use Rattle.cq_audit.specs.declared.phase.PhaseFault.TheVariants.{WrongLine, Blocking as Unsettled}
use Rattle.cq_audit.specs.declared.refusal.AuditRefusal.{AuditRefusal}
use Rattle.cq_audit.specs.declared.refusal.AuditRefusal.TheVariants.{Line, Transfer as Wrong, Blocking, Left, NoMemory}

-- ## What can be audited

-- The setup is that of a switch with so many limits, the cells that arrive are for its ports and of its classes, and
-- its ideal switch has no tag fault.
pub record CanBeAudited (setup : Setup) (limits : List (Option ℕ)) (schedule : Scheduled) : Type 0 where
  pub classes : AreClasses setup.classes
  pub some : 0 < length setup.kinds
  pub few : length setup.kinds ≤ most_ports
  pub ports : schedule.ports ≡ length setup.kinds
  pub limits_are : length limits ≡ length setup.kinds
  pub traffic : IsTraffic (length setup.kinds) (length setup.classes) schedule.came
  pub short : IsShort schedule.came
  pub ranked : IsOk
      (whole_limited_run limits (machines_of setup) schedule.came
      (empty_limited (length setup.kinds) (openings_of setup)))

-- ## Refusals

-- a log that cannot be read, as a refusal
abbrev pub unread : LineRefusal → AuditRefusal
unread (NoLine n) = Line n
unread Unread = NoMemory

-- the fault of the lines of a phase, as a refusal
abbrev pub phase_refusal : ℕ → ℕ → PhaseFault → AuditRefusal
phase_refusal slot phase (WrongLine i) = Wrong slot phase i
phase_refusal slot phase (Unsettled i j) = Blocking slot phase i j

-- ## Of transfers that were read

-- why these transfers are not those of a stable run; that a line cannot be read is said of the log
abbrev pub IsNoOf : List (Option ℕ) → List Machine → List Arrival → Marked Fabric → List Transfer → AuditRefusal →
    Type 0
IsNoOf limits ms came start note (Line n) = ⊥
IsNoOf limits ms came start note (Wrong slot phase i) = IsFaultAt limits ms came start note slot phase (WrongLine i)
IsNoOf limits ms came start note (Blocking slot phase i j) =
    IsFaultAt limits ms came start note slot phase (Unsettled i j)
IsNoOf limits ms came start note (Left n) = IsLeftAt limits ms came start note n
IsNoOf limits ms came start note NoMemory = ⊥

-- ## Of a log

-- the fabric of a setup before its first slot
abbrev pub opening_fabric : Setup → Marked Fabric
opening_fabric setup = empty_limited_fabric (length setup.kinds) (openings_of setup)

-- the bytes are the log text of a stable run
pub record IsYes (setup : Setup) (limits : List (Option ℕ)) (came : List Arrival) (log : List ℕ) : Type 0 where
  pub note : List Transfer
  pub read : IsLog (length setup.kinds) note log
  pub run : IsOfStableRun limits (machines_of setup) came (opening_fabric setup) note

-- they are the log text of transfers that are not those of a stable run, for this
pub record IsReadNo (setup : Setup) (limits : List (Option ℕ)) (came : List Arrival) (log : List ℕ)
    (refusal : AuditRefusal) : Type 0 where
  pub note : List Transfer
  pub read : IsLog (length setup.kinds) note log
  pub wrong : IsNoOf limits (machines_of setup) came (opening_fabric setup) note refusal

-- why the log is refused; want of memory may come at any time
abbrev pub IsNo : Setup → List (Option ℕ) → List Arrival → List ℕ → AuditRefusal → Type 0
IsNo setup limits came log (Line n) = IsLogFault (length setup.kinds) log n
IsNo setup limits came log (Wrong slot phase i) = IsReadNo setup limits came log (Wrong slot phase i)
IsNo setup limits came log (Blocking slot phase i j) = IsReadNo setup limits came log (Blocking slot phase i j)
IsNo setup limits came log (Left n) = IsReadNo setup limits came log (Left n)
IsNo setup limits came log NoMemory = ⊤

-- ## What holds of every log

-- a log is that of a stable run, or is refused for one thing at most, and never both
pub record IsAuditExact (setup : Setup) (limits : List (Option ℕ)) (came : List Arrival) : Type 0 where
  pub one_no : (log : List ℕ) (r s : AuditRefusal) → r ≢ NoMemory → s ≢ NoMemory →
      IsNo setup limits came log r → IsNo setup limits came log s → r ≡ s
  pub never_both : (log : List ℕ) (r : AuditRefusal) → r ≢ NoMemory →
      IsYes setup limits came log → IsNo setup limits came log r → ⊥
