-- How a run may end, what it leaves then, and its status.
use Rattle.std.specs.Prelude.{◌≡◌, ◌⊎◌, ℕ, List, Option, IfSome, MatchOption, Result, Ok, Err, IsOkAnd}
use Rattle.std.specs.List.{AllByRecursion}
use Rattle.cq_base.specs.declared.status.Status.{Status}
use Rattle.cq_base.specs.declared.status.Status.TheVariants as status
use Rattle.cq_space.specs.Call.{Call}
use Rattle.cq_space.specs.Failing.{Fails, FailsTaking, Reads, Writes}
use Rattle.cq_space.specs.Space.{Space}
use Rattle.cq_words.specs.declared.command.Command.{Command}
use Rattle.cq_run.specs.declared.refusal.Refusal.{Refusal}
use Rattle.cq_run.specs.declared.refusal.Refusal.TheVariants as refusal
use Rattle.cq_run.specs.declared.stop.Halt.{Halt}
use Rattle.cq_run.specs.declared.stop.Halt.TheVariants.{Refused, Unread, NoMemory}
use Rattle.cq_run.specs.declared.stop.Stop.{Stop}
use Rattle.cq_run.specs.declared.stop.Stop.TheVariants.{Halted, Cut}
use Rattle.cq_words.specs.Words.{command_for}
use Rattle.cq_run.specs.Plan.{Plan}
use Rattle.cq_run.specs.Aim.{Aim, Denies, Meets}
use Rattle.cq_run.specs.Headline.{Emulates}
use Rattle.cq_run.specs.Pace.{Pace}
use Rattle.cq_run.specs.Planning.{CommandHalts, known_to}
use Rattle.cq_run.specs.Reader.{Reader}
use Rattle.cq_run.specs.Refusals.{meaning_of}
use Rattle.cq_run.specs.Verdict.{judged, MayRead, MayWrite}
use Rattle.cq_run.specs.World.{World, IsUntouched, world}
use Rattle.cq_run.specs.Writing.{IsDone, IsCut}

-- the plan meets what the command aims at where that is known, and in any case it writes only names of the command
pub record IsPlanned (r : Reader) (command : Command) (old : Space) (plan : Plan) : Type 0 where
  pub verdict : IfSome (known_to command old).told (λ m. IsOkAnd (judged r command m) (λ aim. Meets aim plan))
  pub emulates : IfSome old.told (λ m. Emulates r command m plan)
  pub names : AllByRecursion (λ write. MayWrite command write.0) plan.writes

-- how a command may end: its plan is done, nothing was written, or its plan was cut short. What is known of the call
-- that failed are the parameters: that it reads the name, that it writes the name, or that it is one on standard
-- output
abbrev pub CommandEnds : Pace → Reader → (unread unwritten : List ℕ → Type 0) → Type 0 → Command → World → World
    → Result (Unit {0}) Stop → Type 0
CommandEnds pace r unread unwritten untaken command old new (Ok x) =
    (plan : Plan) × IsPlanned r command old.files plan × IsDone plan old new
CommandEnds pace r unread unwritten untaken command old new (Err (Halted halt)) =
    CommandHalts pace (judged r command) (λ name. MayRead command name × unread name) (known_to command old.files)
    (known_to command new.files) halt
    × IsUntouched old new
CommandEnds pace r unread unwritten untaken command old new (Err (Cut at)) =
    (plan : Plan) × IsPlanned r command old.files plan × IsCut unwritten untaken plan old new at

-- words that are no command are refused; files and standard output are as before, with their counts of faults
abbrev pub WordsEnd : World → World → Result (Unit {0}) Stop → Type 0
WordsEnd old new end = (end ≡ Err (Halted (Refused refusal.Words))) × (new ≡ old)

-- how a run may end: by whether there is a command
abbrev pub EndsFor : Pace → Reader → (unread unwritten : List ℕ → Type 0) → Type 0 → Option Command → World → World
    → Result (Unit {0}) Stop → Type 0
EndsFor pace r unread unwritten untaken asked old new end =
    MatchOption asked (WordsEnd old new end)
    (λ command. CommandEnds pace r unread unwritten untaken command old new end)

-- by whether its words are a command
abbrev pub Ends : Pace → Reader → (unread unwritten : List ℕ → Type 0) → Type 0 → List (List ℕ) → World → World
    → Result (Unit {0}) Stop → Type 0
Ends pace r unread unwritten untaken words old new end =
    EndsFor pace r unread unwritten untaken (command_for words) old new end

-- over objects that are a file space and a sink: the calls that failed are calls of these, and no writing was begun
-- before one that reads
abbrev pub EndsIn : {F O : Type 0} → (F → Space) → (Call → F → F → Type 0) → (keeps unbegun : F → F → Type 0)
    → (O → Option (List ℕ)) → (O → ℕ) → (O → O → Type 0) → (O → O → Type 0) → Pace → Reader → Option Command
    → (old new : F) → (before after : O) → Result (Unit {0}) Stop → Type 0
EndsIn space may_fail keeps unbegun taken faults may_refuse holds pace r asked old new before after end =
    EndsFor pace r (λ name. Fails space may_fail unbegun (Reads name) old new)
    (λ name. Fails space may_fail keeps (Writes name) old new)
    (FailsTaking taken faults may_refuse holds before after) asked (world space taken faults old before)
    (world space taken faults new after) end

-- so it is where the run halted, before anything was to be written
abbrev pub WhereHalted : Result (Unit {0}) Stop → Type 0 → Type 0
WhereHalted (Ok x) P = Unit {0}
WhereHalted (Err (Halted halt)) P = P
WhereHalted (Err (Cut at)) P = Unit {0}

-- the status of a run that halts so
abbrev pub halt_status : Halt → Status
halt_status (Refused refusal) = (meaning_of refusal).status
halt_status (Unread name) = status.ReadFault
halt_status NoMemory = status.NoMemory

-- the status of a run that stops so
abbrev pub stop_status : Stop → Status
stop_status (Halted halt) = halt_status halt
stop_status (Cut at) = status.WriteFault

-- the status of a run that ends so
abbrev pub status_of : Result (Unit {0}) Stop → Status
status_of (Ok x) = status.Done
status_of (Err stop) = stop_status stop

-- the statuses that a verdict calls for: that of its refusal; and with an aim that all is done, or that of its denial
abbrev pub CallsFor : Result Aim Refusal → Status → Type 0
CallsFor (Ok aim) answer =
    (answer ≡ status.Done) ⊎ ((refusal : Refusal) × Denies aim refusal × ((meaning_of refusal).status ≡ answer))
CallsFor (Err refusal) answer = (meaning_of refusal).status ≡ answer
