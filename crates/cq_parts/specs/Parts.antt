-- What `resume` comes to over what `part` left: what `run` comes to over the contents from which `part` began.
use Rattle.std.specs.Prelude.{◌≡◌, ◌≢◌, ℕ, ◌<◌, ◌^◌, List, Err, IfSome, IsOkAnd, Some}
use Rattle.std.specs.FinMap.{get}
use Rattle.std.specs.List.{AllByRecursion}
use Rattle.cq_space.specs.Space.{Contents}
use Rattle.cq_words.specs.declared.command.Command.TheVariants.{Resume, Run}
use Rattle.cq_run.specs.Aim.{Aim, Denies, Meets}
use Rattle.cq_run.specs.Headline.{AreRead, IsEmulation, IsStopped}
use Rattle.cq_run.specs.Plan.{Plan}
use Rattle.cq_run.specs.Reader.{Reader}
use Rattle.cq_run.specs.Verdict.{judged}
use Rattle.cq_run.specs.Writing.{all_replaced}
use Rattle.cq_run.specs.declared.refusal.Refusal.{Refusal}

-- contents in which the same configuration and captures are read as in m, over which a run was stopped after so many
-- slots, and the text that it left stands under the name of its state
pub record IsLeftByPart (r : Reader) (config state : List ℕ) (slots : ℕ) (m left : Contents) : Type 0 where
  pub early : slots < 2 ^ 63
  pub plan : Plan
  pub stops : IsStopped r config slots state m plan
  pub same : AreRead r config left stops.tables stops.captures
  pub told : get left state ≡ Some stops.text

-- the contents m with what such a run writes and nothing else, where the name of its state is neither that of the
-- configuration nor one under which a capture is read
pub record IsWrittenByPart (r : Reader) (config state : List ℕ) (slots : ℕ) (m left : Contents) : Type 0 where
  pub early : slots < 2 ^ 63
  pub plan : Plan
  pub stops : IsStopped r config slots state m plan
  pub written : all_replaced plan.writes (Some m) ≡ Some left
  pub configuration_stays : state ≢ config
  pub captures_stay : AllByRecursion (λ row. IfSome row.read (λ name. state ≢ name)) stops.tables.ports

-- in those the same configuration and captures are read, and the text stands under its name
abbrev pub PartLeavesTheRest : Reader → Type 0
PartLeavesTheRest r =
    (config state : List ℕ) (slots : ℕ) (m left : Contents) → IsWrittenByPart r config state slots m left →
    IsLeftByPart r config state slots m left

-- the aim is that of the run over the contents m: what `run` writes meets it, and what meets it is what `run` writes
-- and nothing else; and what denies it is what `run` is refused for
pub record IsAimOfRun (r : Reader) (config : List ℕ) (m : Contents) (aim : Aim) : Type 0 where
  pub met : (whole : Plan) → IsEmulation r config m whole → Meets aim whole
  pub only : (whole plan : Plan) → IsEmulation r config m whole → Meets aim plan → plan ≡ whole
  pub writes : (plan : Plan) → Meets aim plan → IsEmulation r config m plan
  pub refused : (refusal : Refusal) → Denies aim refusal → judged r (Run config) m ≡ Err refusal

-- over what was left, `resume` has such an aim
abbrev pub PartsAreTheRun : Reader → Type 0
PartsAreTheRun r =
    (config state : List ℕ) (slots : ℕ) (m left : Contents) → IsLeftByPart r config state slots m left →
    IsOkAnd (judged r (Resume config state) left) (IsAimOfRun r config m)
