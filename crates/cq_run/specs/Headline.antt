-- What the program claims of `run CONFIG`, of `pass IN OUT`, of `audit CONFIG`, and of runs in parts, in one place.
use Rattle.std.specs.Prelude.{◌≡◌, ℕ, ◌<◌, List, [], ◌∷◌, length, Some, Ok}
use Rattle.std.specs.FinMap.{get}
use Rattle.cq_audit.specs.Audit.{IsYes}
use Rattle.cq_base.specs.Texts.{trace_of}
use Rattle.cq_cells.specs.Schedule.{arrivals, packets_of}
use Rattle.cq_cells.specs.Traffic.{IsRecorded}
use Rattle.cq_laws.specs.Fabric.{IsEmptyFabric}
use Rattle.cq_laws.specs.LimitedFabric.{LimitedRecord}
use Rattle.cq_pcap.specs.Captured.{Captured}
use Rattle.cq_resume.specs.Resumed.{Kept}
use Rattle.cq_route.specs.Plain.{plain_tables}
use Rattle.cq_route.specs.Tables.{AreTables, ports_of}
use Rattle.cq_route.specs.declared.tables.Tables.{Tables}
use Rattle.cq_simulate.specs.EachPacket.{EachPacketOnce}
use Rattle.cq_simulate.specs.IdealRuns.{ideal_departures}
use Rattle.cq_simulate.specs.FabricRuns.{AlwaysHasSlack, AreInputBest, AreStable, IsFabricRun, SendsSlotBySlot, departures_in_run, refused_in_run}
use Rattle.cq_space.specs.Space.{Contents}
use Rattle.cq_words.specs.declared.command.Command.{Command}
use Rattle.cq_words.specs.declared.command.Command.TheVariants.{Pass, Check, Ideal, Run, Soak, Audit, Part, Resume}
use Rattle.cq_run.specs.Parting.{IsPartText, IsResumedText}
use Rattle.cq_run.specs.Passing.{capture_of_all}
use Rattle.cq_run.specs.Plan.{Plan, audited, crossed, passed, resumed, file_alone}
use Rattle.cq_run.specs.Reader.{Reader}
use Rattle.cq_run.specs.Verdict.{tables_in, capture_in, captures_in}

-- what a switch is given: tables that are in range, and for each port the packets that a capture can have
pub record AreGiven (t : Tables) (captures : List (List Captured)) : Type 0 where
  pub tables : AreTables t
  pub each : length captures ≡ ports_of t.setup
  pub recorded : (i : ℕ) → i < length captures → IsRecorded (packets_of captures i)

-- The records, slot by slot, of the crossbar switch with the traffic of these captures: it keeps up with the ideal
-- switch (Chuang, Goel, McKeown and Prabhakar 1999) of the same levels, ranks and limits.
pub record KeepsUp (t : Tables) (captures : List (List Captured)) (rs : List LimitedRecord) : Type 0 where
  pub given : AreGiven t captures
  -- they are the whole run of the definition, from the empty switch on up to the last slot in which a cell arrives,
  -- waits or leaves
  pub runs : IsFabricRun t (arrivals t captures) rs
  -- at its end no cell waits, at an input or at an output
  pub drained : IsEmptyFabric runs.end.state
  -- both matchings of each slot, before and after the departures, are the input-best stable ones
  pub input_best : AreInputBest rs
  -- in each slot the arrivals are admitted and refused as in the ideal switch, and each output sends the cell that it
  -- sends there, and none where it sends none there
  pub same : SendsSlotBySlot t (arrivals t captures) rs
  -- after the arrivals of each slot no cell's input thread exceeds its output cushion
  pub slack : AlwaysHasSlack rs
  -- each packet leaves its output whole or is counted as refused there: one of both, once
  pub once : EachPacketOnce t captures (departures_in_run rs) (refused_in_run rs)

-- what is read of a configuration over these contents: its tables, and the captures that they name
pub record AreRead (r : Reader) (config : List ℕ) (m : Contents) (t : Tables) (captures : List (List Captured)) :
    Type 0 where
  pub configured : tables_in config m ≡ Ok t
  pub captured : captures_in r t m ≡ Ok captures

-- What is written for a configuration over these contents: the captures of what left each output, the trace, the log
-- and the report of a switch that keeps up with the ideal one.
pub record IsEmulation (r : Reader) (config : List ℕ) (m : Contents) (plan : Plan) : Type 0 where
  pub tables : Tables
  pub captures : List (List Captured)
  pub read : AreRead r config m tables captures
  pub records : List LimitedRecord
  pub keeps_up : KeepsUp tables captures records
  pub written : plan ≡ crossed tables captures (departures_in_run records) records

-- What is written of one capture over these contents: what left the one output of a switch of one port that keeps up
-- with the ideal one, and nothing else. It is every packet of the capture, once and in its place, with the stamp of
-- the slot in which its last cell arrived.
pub record IsPassage (r : Reader) (from to : List ℕ) (m : Contents) (plan : Plan) : Type 0 where
  pub packets : List Captured
  pub captured : capture_in r from 0 (plain_tables from to).limit_bytes m ≡ Ok packets
  pub records : List LimitedRecord
  pub keeps_up : KeepsUp (plain_tables from to) (packets ∷ []) records
  pub written : plan ≡ passed from to packets (departures_in_run records)
  pub whole : plan.writes ≡ (to, capture_of_all (plain_tables from to) packets) ∷ []

-- What a yes of an audit says over these contents: the log is that of a stable run of the switch over these captures,
-- and the trace is at once what that run sends and what the ideal switch sends.
pub record IsAudited (r : Reader) (config : List ℕ) (m : Contents) (plan : Plan) : Type 0 where
  pub tables : Tables
  pub captures : List (List Captured)
  pub read : AreRead r config m tables captures
  pub trace : List ℕ
  pub traced : get m tables.trace ≡ Some trace
  pub log : List ℕ
  pub logged : get m tables.log ≡ Some log
  pub audit : IsYes tables.setup tables.limits (arrivals tables captures) log
  -- both matchings of each slot of that run are stable ones of what the lists offer
  pub stable : AreStable audit.run.records
  -- after the arrivals of each slot no cell's input thread exceeds its output cushion
  pub slack : AlwaysHasSlack audit.run.records
  -- what that run sends is what the ideal switch sends, and what the trace says
  pub same : ideal_departures tables (arrivals tables captures) ≡ Ok (departures_in_run audit.run.records)
  pub sent : trace ≡ trace_of (departures_in_run audit.run.records)
  pub written : plan ≡ audited

-- What is written for a run that stops after so many slots over these contents: the text of the state in which it
-- stands then, and nothing else.
pub record IsStopped (r : Reader) (config : List ℕ) (slots : ℕ) (state : List ℕ) (m : Contents) (plan : Plan) : Type 0
  where
    pub tables : Tables
    pub captures : List (List Captured)
    pub read : AreRead r config m tables captures
    pub given : AreGiven tables captures
    pub text : List ℕ
    pub stopped : IsPartText tables captures slots text
    -- both matchings of each slot before are the input-best ones of what the lists offer
    pub input_best : AreInputBest stopped.parted.records
    -- after the arrivals of each slot no cell's input thread exceeds its output cushion
    pub slack : AlwaysHasSlack stopped.parted.records
    pub written : plan ≡ file_alone state text

-- What is written for a run that goes on from a state over these contents: what it keeps to its end, behind what the
-- state tells of what was kept before.
pub record IsTakenUp (r : Reader) (config state : List ℕ) (m : Contents) (plan : Plan) : Type 0 where
  pub tables : Tables
  pub captures : List (List Captured)
  pub read : AreRead r config m tables captures
  pub given : AreGiven tables captures
  pub text : List ℕ
  pub found : get m state ≡ Some text
  pub kept : Kept
  pub goes_on : IsResumedText tables captures text kept
  -- both matchings of each slot from there on are the input-best ones of what the lists offer
  pub input_best : AreInputBest goes_on.resumed.records
  -- after the arrivals of each slot no cell's input thread exceeds its output cushion
  pub slack : AlwaysHasSlack goes_on.resumed.records
  pub written : plan ≡ resumed tables captures kept

-- the same of each command that crosses a switch and writes what left it, of an audit, and of runs in parts; of the
-- others nothing is said here
abbrev pub Emulates : Reader → Command → Contents → Plan → Type 0
Emulates r (Pass from to) m plan = IsPassage r from to m plan
Emulates r (Check config) m plan = Unit {0}
Emulates r (Ideal config) m plan = Unit {0}
Emulates r (Run config) m plan = IsEmulation r config m plan
Emulates r (Soak seed ports slots) m plan = Unit {0}
Emulates r (Audit config) m plan = IsAudited r config m plan
Emulates r (Part config slots state) m plan = IsStopped r config slots state m plan
Emulates r (Resume config state) m plan = IsTakenUp r config state m plan
