-- Only proofs use this.
-- What judging a command comes to in any object that is a file space.
use Rattle.std.specs.Prelude.{◌≡◌, IfOk, IfSome, Result}
use Rattle.std.specs.List.{AllByRecursion}
use Rattle.cq_space.specs.Call.{Call}
use Rattle.cq_space.specs.Failing.{Fails, Reads}
use Rattle.cq_space.specs.Space.{Closed, Space}
use Rattle.cq_words.specs.declared.command.Command.{Command}
use Rattle.cq_run.specs.declared.stop.Halt.{Halt}
use Rattle.cq_run.specs.Headline.{Emulates}
use Rattle.cq_run.specs.Pace.{Pace}
use Rattle.cq_run.specs.Plan.{Plan}
use Rattle.cq_run.specs.Planning.{Decides, known_to}
use Rattle.cq_run.specs.Reader.{Reader}
use Rattle.cq_run.specs.Verdict.{MayRead, MayWrite, judged}

-- a plan, or why there is none, whoever reads captures by the grammar. Nothing was written
pub record IsJudged {S : Type 0} (space : S → Space) (may_fail : Call → S → S → Type 0) (keeps : S → S → Type 0)
    (pace : Pace) (command : Command) (old new : S) (result : Result Plan Halt) : Type 0 where
  -- it is what the command comes to. Where a name is unread, the command may read it, and it was a call to read it that
  -- failed
  pub judges : (r : Reader) → Decides pace (judged r command)
      (λ name. MayRead command name × Fails space may_fail keeps (Reads name) old new)
      (known_to command (space old)) (known_to command (space new)) result
  pub kept : keeps old new
  -- the plan writes only names of the command
  pub names : IfOk result (λ plan. AllByRecursion (λ write. MayWrite command write.0) plan.writes)
  pub emulates : (r : Reader) → IfOk result (λ plan. IfSome (space old).told (λ m. Emulates r command m plan))
  pub closed : (space new).mode ≡ Closed
  pub told : (space new).told ≡ (space old).told
