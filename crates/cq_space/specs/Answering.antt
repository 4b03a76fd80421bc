-- What each call that can fail says beside its meaning, as the object itself tells it.
use Rattle.std.specs.Prelude.{Result, OnOk, OnErr}
use Rattle.cq_space.specs.Call.{Call}
use Rattle.cq_space.specs.Causes.{HasCause}
use Rattle.cq_space.specs.Space.{Space}

-- the count of faults rose exactly where the call failed; it failed for a reason that the object tells, or it might
-- pass; it was counted, and what is beside the meaning stayed
pub record HasAnswered {S T E : Type 0} (space : S → Space) (call : Call) (may_fail : Call → S → S → Type 0)
    (may_pass : S → Type 0) (counts keeps : S → S → Type 0) (old new : S) (result : Result T E) : Type 0 where
  pub cause : HasCause (space old).faults (space new).faults result
  pub why : OnErr result (may_fail call old new)
  pub passed : OnOk result (may_pass old)
  pub counted : counts old new
  pub kept : keeps old new
