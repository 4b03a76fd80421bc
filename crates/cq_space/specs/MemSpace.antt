-- What clauses see of files in memory.
use Rattle.std.specs.Prelude.{◌≡◌, ◌⊎◌, ℕ, ◌-◌, ◌≤◌, false, IsTrue, [], length, Option, None, Some}
use Rattle.std.specs.Ordering.{nat_cmp}
use Rattle.std.specs.Cmp.Lexicographic.{slice_cmp}
use Rattle.std.specs.FinMap.{FinMap, empty, get, code}
use Rattle.std.specs.Coded.{Coded, coded_list, coded_ℕ}
use Rattle.cq_space.specs.Call.{Call, StartRead, Read, StartWrite, Write, Finish}
use Rattle.cq_space.specs.Calls.{Calls, IsShort, next_fails, one_more}
use Rattle.cq_space.specs.Causes.{IsRaised, Rose}
use Rattle.cq_space.specs.Cut.{IsReached, StaysBefore}
use Rattle.cq_space.specs.Space.{Mode, Closed, Reading, Writing, Contents, Space, bytes_of}

-- for each name that is cut, at how many bytes
abbrev pub Cuts : Type 0
Cuts = FinMap (slice_cmp nat_cmp) ℕ

-- how a proof tells cuts apart
abbrev pub cuts_code : Coded Cuts
cuts_code = code (coded_list coded_ℕ) coded_ℕ

-- the mode, the contents, where reading and writing names are cut, the faults, those of them that came from want of
-- memory, how often a writing was to begin, and the calls but `end_read`, which are numbered
pub record MemSpace : Type 0 where
  pub mode : Mode
  pub contents : Contents
  pub read_cuts : Cuts
  pub write_cuts : Cuts
  pub faults : ℕ
  pub starved : ℕ
  pub begun : ℕ
  pub calls : Calls

-- no name, nothing open, no cut and no fault
abbrev pub no_files : MemSpace
no_files = record {
  mode = Closed;
  contents = empty;
  read_cuts = empty;
  write_cuts = empty;
  faults = 0;
  starved = 0;
  begun = 0;
  calls = record { made = 0; failing = []; most = None };
}

-- it tells its contents
abbrev pub told_space : MemSpace → Space
told_space s = record { mode = s.mode; told = Some s.contents; faults = s.faults }

-- where the open name is cut
abbrev pub cut_at : Mode → Cuts → Cuts → Option ℕ
cut_at Closed reads writes = None
cut_at (Reading name left) reads writes = get reads name
cut_at (Writing name) reads writes = get writes name

-- how many bytes of the open name were read, or written
abbrev pub moved_at : Mode → Contents → ℕ
moved_at Closed contents = 0
moved_at (Reading name left) contents = length (bytes_of contents name) - length left
moved_at (Writing name) contents = length (bytes_of contents name)

-- the open name is at its cut
abbrev pub IsCut : MemSpace → Type 0
IsCut s = IsReached (cut_at s.mode s.read_cuts s.write_cuts) (moved_at s.mode s.contents)

-- the call failed at the cut, and not for want of memory
pub record FailsAtCut (old new : MemSpace) : Type 0 where
  pub cut : IsCut old
  pub starved : new.starved ≡ old.starved

-- the call was set to fail, and did not fail for want of memory
pub record IsSetToFail (old new : MemSpace) : Type 0 where
  pub next : IsTrue (next_fails old.calls)
  pub starved : new.starved ≡ old.starved

-- a call fails only where it was set to; beside that a read only at a cut, a start of writing only for want of
-- memory, and a write only for one of these; a fault for want of memory is counted once as such
abbrev pub HasReason : Call → MemSpace → MemSpace → Type 0
HasReason (StartRead name) old new = IsSetToFail old new
HasReason Read old new = IsSetToFail old new ⊎ FailsAtCut old new
HasReason (StartWrite name) old new = IsSetToFail old new ⊎ IsRaised old.starved new.starved
HasReason Write old new = IsSetToFail old new ⊎ (FailsAtCut old new ⊎ IsRaised old.starved new.starved)
HasReason Finish old new = IsSetToFail old new

-- a call fails for its reason, and one fault is counted
pub record MayFail (call : Call) (old new : MemSpace) : Type 0 where
  pub reason : HasReason call old new
  pub counted : IsRaised old.faults new.faults

-- no call succeeds that was set to fail
abbrev pub MayPass : MemSpace → Type 0
MayPass s = next_fails s.calls ≡ false

-- the call was counted
abbrev pub IsCounted : MemSpace → MemSpace → Type 0
IsCounted old new = new.calls ≡ one_more old.calls

-- the call was not counted
abbrev pub IsUncounted : MemSpace → MemSpace → Type 0
IsUncounted old new = new.calls ≡ old.calls

-- n more bytes of the open name do not go past its cut, and are no more than one call may move
abbrev pub MayMove : MemSpace → ℕ → Type 0
MayMove s n = StaysBefore (cut_at s.mode s.read_cuts s.write_cuts) (moved_at s.mode s.contents) n × IsShort s.calls n

-- the cuts and what calls were set to are as before, and no count falls; that of faults from want of memory rises
-- only with that of faults
pub record KeepsCuts (old new : MemSpace) : Type 0 where
  pub read_cuts : new.read_cuts ≡ old.read_cuts
  pub write_cuts : new.write_cuts ≡ old.write_cuts
  pub failing : new.calls.failing ≡ old.calls.failing
  pub most : new.calls.most ≡ old.calls.most
  pub made : old.calls.made ≤ new.calls.made
  pub faults : old.faults ≤ new.faults
  pub later : old.starved ≤ new.starved
  pub counted : (new.starved ≡ old.starved) ⊎ Rose old.faults new.faults

-- and no writing was to begin, as far as the count tells, which rises no more at its greatest value
pub record IsUnbegun (old new : MemSpace) : Type 0 where
  pub kept : KeepsCuts old new
  pub begun : new.begun ≡ old.begun

-- one writing more was to begin
abbrev pub HasBegun : MemSpace → MemSpace → Type 0
HasBegun old new = IsRaised old.begun new.begun
