-- What each refusal comes to: the one table from which statuses, lines and causes follow. A new refusal is one case
-- here.
use Rattle.std.specs.Prelude.{ℕ, Bool, true, false, List, [], ◌++◌, codes}
use Rattle.cq_audit.specs.declared.refusal.AuditRefusal.{AuditRefusal}
use Rattle.cq_audit.specs.declared.refusal.AuditRefusal.TheVariants as of_log
use Rattle.cq_base.specs.declared.status.Status.{Status}
use Rattle.cq_base.specs.declared.status.Status.TheVariants as status
use Rattle.cq_base.specs.Decimal.{decimal}
use Rattle.cq_pcap.specs.declared.read.PcapRefusal.{PcapRefusal}
use Rattle.cq_pcap.specs.declared.read.PcapRefusal.TheVariants.{NoHeader, Magic, Version, LinkType, CutHeader, CutBody, LongRecord, NoMemory}
use Rattle.cq_run.specs.declared.denial.Denial.{Denial}
use Rattle.cq_run.specs.declared.denial.Denial.TheVariants as audit
use Rattle.cq_run.specs.declared.refusal.CaptureFault.{CaptureFault}
use Rattle.cq_run.specs.declared.refusal.CaptureFault.TheVariants.{Read, Long}
use Rattle.cq_run.specs.declared.refusal.Refusal.{Refusal}
use Rattle.cq_run.specs.declared.refusal.Refusal.TheVariants.{Words, Missing, Configuration, Capture, Tag, Audit, State}
use Rattle.cq_run.specs.declared.refusal.StateFault.{StateFault}
use Rattle.cq_run.specs.declared.refusal.StateFault.TheVariants as stopped

-- what a refusal comes to
pub record Meaning : Type 0 where
  -- the status of a run that ends with it
  pub status : Status
  -- what its line says
  pub text : List ℕ
  -- whether it can come where the file space does not tell its contents
  pub untold : Bool
  -- whether files may have been read behind it, where they are read ahead: a capture is told before those of later
  -- inputs
  pub outruns : Bool

-- the number of the fault that the bytes of a capture have, with its figures; want of memory is none, and has no number
abbrev pub refusal_text : PcapRefusal → List ℕ
refusal_text NoHeader = codes "1"
refusal_text Magic = codes "2"
refusal_text Version = codes "3"
refusal_text LinkType = codes "4"
refusal_text (CutHeader offset) = codes "5 at " ++ decimal offset
refusal_text (CutBody offset) = codes "6 at " ++ decimal offset
refusal_text (LongRecord offset len) = codes "7 at " ++ decimal offset ++ codes ", length " ++ decimal len
refusal_text NoMemory = []

-- the number of what is wrong with a capture, with its figures
abbrev pub fault_text : CaptureFault → List ℕ
fault_text (Read refusal) = refusal_text refusal
fault_text (Long limit) = codes "8, limit " ++ decimal limit

-- whether bytes, or the length of a file, can be at fault so: want of memory is no fault of theirs
abbrev pub is_fault : CaptureFault → Bool
is_fault (Read NoMemory) = false
is_fault fault = true

-- what an audit refuses a log for, with its figures; want of memory says nothing of a log
abbrev pub log_text : AuditRefusal → List ℕ
log_text (of_log.Line n) = codes "audit: A1 at line " ++ decimal n
log_text (of_log.Transfer slot phase input) =
    codes "audit: A2 at slot " ++ decimal slot ++ codes " phase " ++ decimal phase ++ codes " input " ++ decimal input
log_text (of_log.Blocking slot phase input output) =
    codes "audit: A3 at slot " ++ decimal slot ++ codes " phase " ++ decimal phase ++ codes " input " ++ decimal input
    ++ codes " output " ++ decimal output
log_text (of_log.Left n) = codes "audit: A4 at line " ++ decimal n
log_text of_log.NoMemory = []

-- what an audit says no to, with its figures
abbrev pub denial_text : Denial → List ℕ
denial_text audit.LongTrace = codes "audit: A6 trace"
denial_text audit.LongLog = codes "audit: A6 log"
denial_text (audit.Log refusal) = log_text refusal
denial_text (audit.Trace n) = codes "audit: A5 at line " ++ decimal n

-- whether an audit can say no so: want of memory says nothing of a log
abbrev pub is_no : Denial → Bool
is_no (audit.Log of_log.NoMemory) = false
is_no denial = true

-- what is wrong with the state of a stopped run, with its figure
abbrev pub state_fault_text : StateFault → List ℕ
state_fault_text stopped.Long = codes "state: S4"
state_fault_text (stopped.Line n) = codes "state: S1 at line " ++ decimal n
state_fault_text stopped.Shape = codes "state: S2"
state_fault_text (stopped.Unsound clause) = codes "state: S3 clause " ++ decimal clause

-- the forms of the commands
abbrev pub usage : List ℕ
usage =
    codes "usage: cq_switch pass IN OUT | check CONFIG | ideal CONFIG | run CONFIG | soak SEED PORTS SLOTS | audit "
    ++ codes "CONFIG | part CONFIG SLOTS STATE | resume CONFIG STATE | stream CONFIG"

-- words are judged before any file is asked for, and a name is missed only where contents are told
abbrev pub meaning_of : Refusal → Meaning
meaning_of Words = record { status = status.Words; text = usage; untold = false; outruns = false }
meaning_of (Missing name) = record {
  status = status.ReadFault;
  text = codes "read fault: " ++ name;
  untold = false;
  outruns = false;
}
meaning_of (Configuration code path) = record {
  status = status.Configuration;
  text = codes "configuration: C" ++ decimal code ++ codes " at " ++ path;
  untold = true;
  outruns = false;
}
meaning_of (Capture input fault) = record {
  status = status.Capture;
  text = codes "capture of input " ++ decimal input ++ codes ": " ++ fault_text fault;
  untold = is_fault fault;
  outruns = true;
}
meaning_of (Tag fault) = record {
  status = status.Tag;
  text = codes "tag: slot " ++ decimal fault.slot ++ codes ", input " ++ decimal fault.input
      ++ codes ", output " ++ decimal fault.output;
  untold = true;
  outruns = false;
}
meaning_of (Audit denial) = record {
  status = status.AuditNo;
  text = denial_text denial;
  untold = is_no denial;
  outruns = false;
}
meaning_of (State fault) = record {
  status = status.State;
  text = state_fault_text fault;
  untold = true;
  outruns = false;
}
