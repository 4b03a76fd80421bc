-- What an audit says of the trace and the log of any maker. Its yes: the log is that of a stable run of the switch
-- that the configuration describes, with its limits, over the cells that arrive, and the trace is what the ideal
-- switch of these limits sends. Its no is the first thing that is wrong.
use Rattle.std.specs.Prelude.{◌≡◌, ℕ, List}
use Rattle.cq_audit.specs.Audit.{IsNo, IsYes}
use Rattle.cq_audit.specs.Trace.{DiffersFirst}
use Rattle.cq_audit.specs.declared.refusal.AuditRefusal.{AuditRefusal}
use Rattle.cq_audit.specs.declared.refusal.AuditRefusal.TheVariants as of_log
use Rattle.cq_base.specs.declared.cell.Departure.{Departure}
use Rattle.cq_base.specs.Texts.{trace_of}
use Rattle.cq_cells.specs.Schedule.{arrivals}
use Rattle.cq_pcap.specs.Captured.{Captured}
use Rattle.cq_route.specs.declared.tables.Tables.{Tables}
use Rattle.cq_run.specs.declared.denial.Denial.{Denial}
use Rattle.cq_run.specs.declared.denial.Denial.TheVariants.{LongTrace, LongLog, Log, Trace}
use Rattle.cq_run.specs.declared.refusal.Refusal.TheVariants.{Audit}
use Rattle.cq_run.specs.declared.stop.Halt.{Halt}
use Rattle.cq_run.specs.declared.stop.Halt.TheVariants.{Refused, NoMemory}

-- what a refusal of the log comes to; want of memory is none
abbrev pub halt_for_log : AuditRefusal → Halt
halt_for_log of_log.NoMemory = NoMemory
halt_for_log refusal = Refused (Audit (Log refusal))

-- ## A yes and a no

-- the log is that of a stable run over these captures, and the trace that of these departures
pub record IsAuditYes (t : Tables) (captures : List (List Captured)) (sent : List Departure) (trace log : List ℕ) :
    Type 0
  where
    pub log_is : IsYes t.setup t.limits (arrivals t captures) log
    pub trace_is : trace ≡ trace_of sent

-- the log is refused for this
abbrev pub IsLogDenied : Tables → List (List Captured) → List ℕ → AuditRefusal → Type 0
IsLogDenied t captures log refusal = IsNo t.setup t.limits (arrivals t captures) log refusal

-- this is the first thing that is wrong with them; files that are too long are refused before
abbrev pub IsDenied : Tables → List (List Captured) → List Departure → List ℕ → List ℕ → Denial → Type 0
IsDenied t captures sent trace log LongTrace = ⊥
IsDenied t captures sent trace log LongLog = ⊥
IsDenied t captures sent trace log (Log of_log.NoMemory) = ⊥
IsDenied t captures sent trace log (Log refusal) = IsLogDenied t captures log refusal
IsDenied t captures sent trace log (Trace n) =
    IsYes t.setup t.limits (arrivals t captures) log × DiffersFirst trace (trace_of sent) n
