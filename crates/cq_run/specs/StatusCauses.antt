-- Which status comes when, read off the status alone.
use Rattle.std.specs.Prelude.{◌≡◌, ◌≢◌, ◌⊎◌, Option, IfSome, IsSomeAnd, Result, IsOkAnd}
use Rattle.cq_base.specs.declared.status.Status.{Status}
use Rattle.cq_base.specs.declared.status.Status.TheVariants.{Done, Capture, ReadFault, WriteFault, NoMemory}
use Rattle.cq_space.specs.Causes.{Rose}
use Rattle.cq_space.specs.Space.{Contents}
use Rattle.cq_run.specs.declared.refusal.Refusal.{Refusal}
use Rattle.cq_run.specs.Plan.{Plan}
use Rattle.cq_run.specs.Aim.{Aim, Meets}
use Rattle.cq_run.specs.Pace.{Pace, Uncounted}
use Rattle.cq_run.specs.World.{World, IsUntouched}
use Rattle.cq_run.specs.Writing.{IsDone}
use Rattle.cq_run.specs.Ending.{CallsFor}

-- what a status says of the verdict on the contents before the run, where they are known, of the counts of faults,
-- and of what was written
pub record StatusCauses (pace : Pace) (verdict : Contents → Result Aim Refusal) (known : Option Contents)
    (old new : World) (answer : Status) : Type 0 where
  -- a status other than those of faults and of memory is the verdict's
  pub by_verdict : answer ≢ ReadFault → answer ≢ WriteFault → answer ≢ NoMemory →
      IfSome known (λ m. CallsFor (verdict m) answer)
  -- with status Done a plan that the verdict aims at is done
  pub done : answer ≡ Done →
      IfSome known (λ m. IsOkAnd (verdict m) (λ aim. (plan : Plan) × Meets aim plan × IsDone plan old new))
  -- a read fault is a missing name, or was counted
  pub read : answer ≡ ReadFault →
      IsSomeAnd known (λ m. CallsFor (verdict m) ReadFault) ⊎ Rose old.files.faults new.files.faults
  -- a write fault was counted, and comes only where there is a plan
  pub write : answer ≡ WriteFault → Rose old.files.faults new.files.faults ⊎ Rose old.out.faults new.out.faults
  pub write_planned : answer ≡ WriteFault →
      IfSome known (λ m. IsOkAnd (verdict m) (λ aim. (plan : Plan) × Meets aim plan))
  -- with every other status nothing was written
  pub untouched : answer ≢ Done → answer ≢ WriteFault → IsUntouched old new
  -- a fault that was counted is answered. Where files are read ahead, a refused capture and want of memory may be
  -- answered before it
  pub uncounted : answer ≢ ReadFault → answer ≢ WriteFault
      → Uncounted pace ((answer ≡ Capture) ⊎ (answer ≡ NoMemory)) old.files.faults new.files.faults
      × (new.out.faults ≡ old.out.faults)
  -- where no fault was counted the status is the verdict's, unless memory ran out
  pub complete : ¬ Rose old.files.faults new.files.faults → ¬ Rose old.out.faults new.out.faults →
      IfSome known (λ m. CallsFor (verdict m) answer ⊎ (answer ≡ NoMemory))
