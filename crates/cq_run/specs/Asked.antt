-- Only proofs use this.
-- What is asked of a configuration and the captures that it names.
use Rattle.std.specs.Prelude.{◌<◌, ◌^◌, ℕ, List}
use Rattle.cq_words.specs.declared.command.Command.{Command}
use Rattle.cq_words.specs.declared.command.Command.TheVariants as command
use Rattle.cq_run.specs.declared.judge.Asked.{Asked}
use Rattle.cq_run.specs.declared.judge.Asked.TheVariants.{Audit, Ideal, Part, Resume, Run}

-- the command that asks this of the configuration of this name
abbrev pub command_asking : List ℕ → Asked → Command
command_asking config Ideal = command.Ideal config
command_asking config Run = command.Run config
command_asking config Audit = command.Audit config
command_asking config (Part slots state) = command.Part config slots state
command_asking config (Resume state) = command.Resume config state

-- where a run is to stop, it is before slot 2^63
abbrev pub StopsInTime : Asked → Type 0
StopsInTime (Part slots state) = slots < 2 ^ 63
StopsInTime _ = Unit {0}
