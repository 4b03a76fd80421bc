-- What words and contents come to: what is aimed at, or the refusal that is met first. Captures are read by the
-- grammar: `r` is any reader that goes by it.
use Rattle.std.specs.Prelude.{◌≡◌, ℕ, ◌+◌, if◌then◌else◌, nat_lt, List, [], ◌∷◌, length, Option, None, Some, Result, Ok, Err}
use Rattle.std.specs.FinMap.{get}
use Rattle.cq_base.specs.declared.cell.Departure.{Departure}
use Rattle.cq_base.specs.declared.cell.TagFault.{TagFault}
use Rattle.cq_cells.specs.Schedule.{arrivals}
use Rattle.cq_space.specs.Space.{Contents}
use Rattle.cq_gen.specs.Packets.{soak_captures}
use Rattle.cq_gen.specs.Tables.{soak_tables}
use Rattle.cq_pcap.specs.Captured.{Captured}
use Rattle.cq_pcap.specs.declared.read.PcapRefusal.{PcapRefusal}
use Rattle.cq_route.specs.declared.tables.PortRow.{PortRow}
use Rattle.cq_route.specs.declared.tables.Tables.{Tables}
use Rattle.cq_route.specs.Plain.{plain_tables}
use Rattle.cq_simulate.specs.IdealRuns.{ideal_departures}
use Rattle.cq_state.specs.Refusals.{longest_text}
use Rattle.cq_tables.specs.Check.{Refused}
use Rattle.cq_tables.specs.Document.{read_or_refused}
use Rattle.cq_words.specs.declared.command.Command.{Command}
use Rattle.cq_words.specs.declared.command.Command.TheVariants.{Pass, Check, Ideal, Run, Soak, Audit, Part, Resume}
use Rattle.cq_run.specs.declared.refusal.Refusal.{Refusal}
use Rattle.cq_run.specs.declared.refusal.Refusal.TheVariants.{Words, Missing, Configuration, Capture, Tag, Audit as Denied, State}
use Rattle.cq_run.specs.declared.denial.Denial.{Denial}
use Rattle.cq_run.specs.declared.denial.Denial.TheVariants.{LongTrace, LongLog}
use Rattle.cq_run.specs.declared.refusal.CaptureFault.TheVariants.{Read, Long}
use Rattle.cq_run.specs.declared.refusal.StateFault.TheVariants as stopped
use Rattle.cq_words.specs.Words.{command_for}
use Rattle.cq_run.specs.Aim.{Aim, Exactly, Crossing, Reporting, Auditing, Parting, Resuming}
use Rattle.cq_run.specs.Reader.{Reader}
use Rattle.cq_run.specs.Plan.{checked, passed, switched}

-- one judgement after another: the first refusal is the answer
infixl 10 ◌>>=◌
abbrev pub ◌>>=◌ : {A B : Type 0} → Result A Refusal → (A → Result B Refusal) → Result B Refusal
(Ok x) >>= f = f x
(Err e) >>= f = Err e

-- what a name has, or that it is missing
abbrev pub found_or_missing : List ℕ → Option (List ℕ) → Result (List ℕ) Refusal
found_or_missing name None = Err (Missing name)
found_or_missing name (Some bytes) = Ok bytes

-- the bytes of a name that is to be read
abbrev pub named : Contents → List ℕ → Result (List ℕ) Refusal
named m name = found_or_missing name (get m name)

-- the tables that are read of a configuration, or what it is refused for
abbrev pub read_or_refused_for : Result Tables Refused → Result Tables Refusal
read_or_refused_for (Ok tables) = Ok tables
read_or_refused_for (Err refused) = Err (Configuration refused.code refused.path)

-- the tables of the configuration of this name
abbrev pub tables_in : List ℕ → Contents → Result Tables Refusal
tables_in name m = do
  bytes ← named m name
  read_or_refused_for (read_or_refused bytes)

-- the bytes of a file that may have so many; one that is longer is refused so before it is looked at
abbrev pub short_or : Refusal → ℕ → List ℕ → Result (List ℕ) Refusal
short_or long limit bytes = if nat_lt limit (length bytes) then Err long else Ok bytes

-- the bytes of this name
abbrev pub short_in : Refusal → ℕ → List ℕ → Contents → Result (List ℕ) Refusal
short_in long limit name m = named m name >>= short_or long limit

-- the bytes of an input's capture of this name
abbrev pub file_in : List ℕ → ℕ → ℕ → Contents → Result (List ℕ) Refusal
file_in name input limit m = short_in (Capture input (Long limit)) limit name m

-- the packets that are read of an input's capture, or what is wrong with it
abbrev pub read_or_faulty : ℕ → Result (List Captured) PcapRefusal → Result (List Captured) Refusal
read_or_faulty input (Ok packets) = Ok packets
read_or_faulty input (Err fault) = Err (Capture input (Read fault))

-- the packets of the capture of this name
abbrev pub capture_in : Reader → List ℕ → ℕ → ℕ → Contents → Result (List Captured) Refusal
capture_in r name input limit m = do
  bytes ← file_in name input limit m
  read_or_faulty input (r.read bytes)

-- the packets that arrive at an input: it has none where no file is read for it
abbrev pub packets_at : Reader → ℕ → ℕ → Option (List ℕ) → Contents → Result (List Captured) Refusal
packets_at r input limit None m = Ok []
packets_at r input limit (Some name) m = capture_in r name input limit m

-- the packets of these ports, which are numbered from this one on; the lowest input that is refused is the answer
unfoldable pub captures_from : Reader → ℕ → ℕ → List PortRow → Contents → Result (List (List Captured)) Refusal
captures_from r limit input [] m = Ok []
captures_from r limit input (row ∷ rows) m = do
  packets ← packets_at r input limit row.read m
  others ← captures_from r limit (input + 1) rows m
  Ok (packets ∷ others)

-- the packets of all inputs
abbrev pub captures_in : Reader → Tables → Contents → Result (List (List Captured)) Refusal
captures_in r tables m = captures_from r tables.limit_bytes 0 tables.ports m

-- the trace or the log of this name; one that is too long gets this no
abbrev pub text_in : Denial → List ℕ → Contents → Result (List ℕ) Refusal
text_in long name m = short_in (Denied long) longest_text name m

-- the text of a state of this name
abbrev pub state_in : List ℕ → Contents → Result (List ℕ) Refusal
state_in name m = short_in (State stopped.Long) longest_text name m

-- the departures of a run, or its tag fault
abbrev pub sent_or_tag : Result (List Departure) TagFault → Result (List Departure) Refusal
sent_or_tag (Ok sent) = Ok sent
sent_or_tag (Err fault) = Err (Tag fault)

-- what the ideal switch sends of these packets
abbrev pub ideally_sent : Tables → List (List Captured) → Result (List Departure) Refusal
ideally_sent tables captures = sent_or_tag (ideal_departures tables (arrivals tables captures))

-- what a command comes to; a new command is one case here, in `MayRead` and in `MayWrite`, and in `known_to`,
-- `IsWithinRange`, `Emulates` and `over`
abbrev pub judged : Reader → Command → Contents → Result Aim Refusal
judged r (Pass from to) m = do
  packets ← capture_in r from 0 (plain_tables from to).limit_bytes m
  sent ← ideally_sent (plain_tables from to) (packets ∷ [])
  Ok (Exactly (passed from to packets sent))
judged r (Check config) m = do
  tables ← tables_in config m
  Ok (Exactly (checked tables))
judged r (Ideal config) m = do
  tables ← tables_in config m
  captures ← captures_in r tables m
  sent ← ideally_sent tables captures
  Ok (Exactly (switched tables captures sent))
judged r (Run config) m = do
  tables ← tables_in config m
  captures ← captures_in r tables m
  sent ← ideally_sent tables captures
  Ok (Crossing tables captures sent)
judged r (Soak seed ports slots) m = do
  sent ← ideally_sent (soak_tables ports) (soak_captures seed ports slots)
  Ok (Reporting (soak_tables ports) (soak_captures seed ports slots))
judged r (Audit config) m = do
  tables ← tables_in config m
  captures ← captures_in r tables m
  trace ← text_in LongTrace tables.trace m
  log ← text_in LongLog tables.log m
  sent ← ideally_sent tables captures
  Ok (Auditing tables captures sent trace log)
judged r (Part config slots state) m = do
  tables ← tables_in config m
  captures ← captures_in r tables m
  Ok (Parting tables captures slots state)
judged r (Resume config state) m = do
  tables ← tables_in config m
  captures ← captures_in r tables m
  text ← state_in state m
  Ok (Resuming tables captures text)

-- words that are no command are refused before anything is read
abbrev pub judged_or_words : Reader → Option Command → Contents → Result Aim Refusal
judged_or_words r None m = Err Words
judged_or_words r (Some command) m = judged r command m

-- what the words come to
abbrev pub verdict : Reader → List (List ℕ) → Contents → Result Aim Refusal
verdict r words m = judged_or_words r (command_for words) m

-- the names that the line of a read fault may have, whatever the contents: where a configuration says what is read, any
abbrev pub MayRead : Command → List ℕ → Type 0
MayRead (Pass from to) name = name ≡ from
MayRead (Check config) name = name ≡ config
MayRead (Ideal config) name = Unit {0}
MayRead (Run config) name = Unit {0}
MayRead (Soak seed ports slots) name = ⊥
MayRead (Audit config) name = Unit {0}
MayRead (Part config slots state) name = Unit {0}
MayRead (Resume config state) name = Unit {0}

-- the names that a command's plan may write, whatever the contents: where a configuration says what is written, any
abbrev pub MayWrite : Command → List ℕ → Type 0
MayWrite (Pass from to) name = name ≡ to
MayWrite (Check config) name = ⊥
MayWrite (Ideal config) name = Unit {0}
MayWrite (Run config) name = Unit {0}
MayWrite (Soak seed ports slots) name = ⊥
MayWrite (Audit config) name = ⊥
MayWrite (Part config slots state) name = name ≡ state
MayWrite (Resume config state) name = Unit {0}
