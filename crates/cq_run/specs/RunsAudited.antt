-- What `run` leaves gets a yes from `audit`: whoever says no to everything does not keep this.
use Rattle.std.specs.Prelude.{◌≡◌, ◌≢◌, ℕ, ◌≤◌, List, length, Some, IsOkAnd}
use Rattle.std.specs.List.{AllByRecursion}
use Rattle.cq_space.specs.Space.{Contents}
use Rattle.cq_state.specs.Refusals.{longest_text}
use Rattle.cq_words.specs.declared.command.Command.TheVariants.{Audit}
use Rattle.cq_run.specs.declared.refusal.Refusal.{Refusal}
use Rattle.cq_run.specs.Aim.{Denies, Meets}
use Rattle.cq_run.specs.Headline.{IsEmulation}
use Rattle.cq_run.specs.Plan.{Plan, audited}
use Rattle.cq_run.specs.Reader.{Reader}
use Rattle.cq_run.specs.Verdict.{judged}
use Rattle.cq_run.specs.Writing.{all_replaced}

-- what a run of this configuration over the contents m leaves, where it did not write the configuration, and no file
-- that it wrote is too long for an audit
pub record IsLeft (r : Reader) (config : List ℕ) (m left : Contents) (plan : Plan) : Type 0 where
  pub emulates : IsEmulation r config m plan
  pub written : all_replaced plan.writes (Some m) ≡ Some left
  pub configuration_stays : AllByRecursion (λ write. write.0 ≢ config) plan.writes
  pub short : AllByRecursion (λ write. length write.1 ≤ longest_text) plan.writes

-- over it an audit aims at a yes that holds, and denies nothing
abbrev pub RunsAreAudited : Reader → Type 0
RunsAreAudited r =
    (config : List ℕ) (m left : Contents) (plan : Plan) → IsLeft r config m left plan →
    IsOkAnd (judged r (Audit config) left) (λ aim. Meets aim audited × ((refusal : Refusal) → Denies aim refusal → ⊥))
