-- How many workers look for a matching changes nothing that a command comes to.
use Rattle.std.specs.Prelude.{◌≡◌, ◌↔◌, ℕ, List, Result, Ok, Err, IsOkAnd}
use Rattle.cq_route.specs.declared.tables.Tables.{Tables}
use Rattle.cq_space.specs.Space.{Contents}
use Rattle.cq_words.specs.declared.command.Command.{Command}
use Rattle.cq_words.specs.declared.command.Command.TheVariants.{Pass, Check, Ideal, Run, Soak, Audit, Part, Resume}
use Rattle.cq_run.specs.Aim.{Aim, Denies, Meets}
use Rattle.cq_run.specs.Plan.{Plan}
use Rattle.cq_run.specs.Reader.{Reader}
use Rattle.cq_run.specs.Verdict.{judged, tables_in}
use Rattle.cq_run.specs.declared.refusal.Refusal.{Refusal}

-- these tables, with so many workers
abbrev pub with_workers : ℕ → Tables → Tables
with_workers n t = record t { workers = n }

-- two configurations lie side by side, and differ in their workers alone
pub record DifferInWorkers (m : Contents) (one other : List ℕ) : Type 0 where
  pub tables : Tables
  pub workers : ℕ
  pub first : tables_in one m ≡ Ok tables
  pub second : tables_in other m ≡ Ok (with_workers workers tables)

-- the command over this configuration in place of its own; two commands have none
abbrev pub over : List ℕ → Command → Command
over config (Pass from to) = Pass from to
over config (Check own) = Check config
over config (Ideal own) = Ideal config
over config (Run own) = Run config
over config (Soak seed ports slots) = Soak seed ports slots
over config (Audit own) = Audit config
over config (Part own slots state) = Part config slots state
over config (Resume own state) = Resume config state

-- two verdicts come to the same
pub record ComeToTheSame (one other : Result Aim Refusal) : Type 0 where
  -- each plan meets what both aim at, or what neither does; and there is one such plan at most
  pub met : (plan : Plan) → IsOkAnd one (λ aim. Meets aim plan) ↔ IsOkAnd other (λ aim. Meets aim plan)
  pub one_plan : (a b : Plan) → IsOkAnd one (λ aim. Meets aim a) → IsOkAnd other (λ aim. Meets aim b) → a ≡ b
  -- each reason denies both aims, or neither
  pub denied : (refusal : Refusal) → IsOkAnd one (λ aim. Denies aim refusal) ↔ IsOkAnd other (λ aim. Denies aim refusal)
  -- each refusal is the answer of both, or of neither
  pub refused : (refusal : Refusal) → (one ≡ Err refusal) ↔ (other ≡ Err refusal)

-- so each command does over two such configurations
abbrev pub WorkersChangeNothing : Reader → Type 0
WorkersChangeNothing r =
    (command : Command) (m : Contents) (one other : List ℕ) → DifferInWorkers m one other →
    ComeToTheSame (judged r (over one command) m) (judged r (over other command) m)
