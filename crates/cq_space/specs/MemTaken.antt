-- What clauses see of a sink in memory.
use Rattle.std.specs.Prelude.{◌≡◌, ◌⊎◌, ℕ, ◌≤◌, List, length, Option}
use Rattle.cq_space.specs.Causes.{IsRaised, Rose}
use Rattle.cq_space.specs.Cut.{IsReached, StaysBefore}

-- the bytes taken, where writing is cut, the faults, and those of them that came from want of memory
pub record MemTaken : Type 0 where
  pub bytes : List ℕ
  pub cut : Option ℕ
  pub faults : ℕ
  pub starved : ℕ

-- the call failed at the cut, and not for want of memory
pub record FailsAtCut (old new : MemTaken) : Type 0 where
  pub cut : IsReached old.cut (length old.bytes)
  pub starved : new.starved ≡ old.starved

-- a write fails only at the cut or for want of memory, which is counted once, and one fault is counted
pub record MayFail (old new : MemTaken) : Type 0 where
  pub reason : FailsAtCut old new ⊎ IsRaised old.starved new.starved
  pub counted : IsRaised old.faults new.faults

-- n more bytes do not go past the cut
abbrev pub MayMove : MemTaken → ℕ → Type 0
MayMove s n = StaysBefore s.cut (length s.bytes) n

-- the cut is as before, and no count falls; that of faults from want of memory rises only with that of faults
pub record KeepsCut (old new : MemTaken) : Type 0 where
  pub cut : new.cut ≡ old.cut
  pub faults : old.faults ≤ new.faults
  pub later : old.starved ≤ new.starved
  pub counted : (new.starved ≡ old.starved) ⊎ Rose old.faults new.faults
