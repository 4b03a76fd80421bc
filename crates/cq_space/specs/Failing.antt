-- A call that failed: the moments before and after it, as the object itself tells them.
use Rattle.std.specs.Prelude.{◌≡◌, ℕ, List, Option}
use Rattle.cq_space.specs.Call.{Call, StartRead, Read, StartWrite, Write, Finish}
use Rattle.cq_space.specs.Causes.{Rose}
use Rattle.cq_space.specs.Space.{Mode, Closed, Reading, Writing, Space}

-- what stays, stays over no call at all, and over calls one after another
pub record Lasts {S : Type 0} (keeps : S → S → Type 0) : Type 0 where
  pub none : (s : S) → keeps s s
  pub both : (s t u : S) → keeps s t → keeps t u → keeps s u

-- in this mode the call reads the name: it begins to, or goes on
abbrev pub Reads : List ℕ → Mode → Call → Type 0
Reads name Closed (StartRead asked) = asked ≡ name
Reads name (Reading own left) Read = own ≡ name
Reads name _ _ = ⊥

-- in this mode the call writes the name: it begins to, goes on, or ends
abbrev pub Writes : List ℕ → Mode → Call → Type 0
Writes name Closed (StartWrite asked) = asked ≡ name
Writes name (Writing own) Write = own ≡ name
Writes name (Writing own) Finish = own ≡ name
Writes name _ _ = ⊥

-- up to some moment no fault was counted; then a call of this kind failed, and nothing came after it
pub record Fails {S : Type 0} (space : S → Space) (may_fail : Call → S → S → Type 0) (keeps : S → S → Type 0)
    (kind : Mode → Call → Type 0) (old new : S) : Type 0 where
  pub before : S
  pub call : Call
  pub of_kind : kind (space before).mode call
  pub uncounted : (space before).faults ≡ (space old).faults
  pub kept : keeps old before
  pub rose : Rose (space before).faults (space new).faults
  pub why : may_fail call before new
  pub told : (space new).told ≡ (space before).told
  pub kept_after : keeps before new

-- the same of a sink, which has one call and no mode
pub record FailsTaking {S : Type 0} (taken : S → Option (List ℕ)) (faults : S → ℕ) (may_fail : S → S → Type 0)
    (keeps : S → S → Type 0) (old new : S) : Type 0 where
  pub before : S
  pub uncounted : faults before ≡ faults old
  pub kept : keeps old before
  pub rose : Rose (faults before) (faults new)
  pub why : may_fail before new
  pub told : taken new ≡ taken before
  pub kept_after : keeps before new
