-- What is kept of a run until its bytes are built.
use Rattle.std.specs.Prelude.{◌≡◌, ◌∷◌, [], ℕ, List, map, zip, Option, None, Some, Ok}
use Rattle.cq_base.specs.declared.cell.Departure.{Departure}
use Rattle.cq_cells.specs.Schedule.{t0_of}
use Rattle.cq_ideal.specs.Refused.{refused_counts}
use Rattle.cq_laws.specs.LimitedFabric.{LimitedRecord, slots_in}
use Rattle.cq_laws.specs.Measures.{figures_of}
use Rattle.cq_laws.specs.Records.{transfers_of_run}
use Rattle.cq_pcap.specs.declared.read.PcapRefusal.{PcapRefusal}
use Rattle.cq_pcap.specs.Captured.{Captured}
use Rattle.cq_route.specs.declared.tables.PortRow.{PortRow}
use Rattle.cq_route.specs.declared.tables.Tables.{Tables}
use Rattle.cq_route.specs.Tables.{ports_of}
use Rattle.cq_simulate.specs.FabricRuns.{departures_in_run, refused_in_run}
use Rattle.cq_simulate.specs.declared.packing.Packing.{Packing}
use Rattle.cq_simulate.specs.declared.refusal.RunRefusal.{RunRefusal}
use Rattle.cq_simulate.specs.declared.refusal.RunRefusal.TheVariants as run
use Rattle.cq_run.specs.declared.refusal.CaptureFault.TheVariants.{Read}
use Rattle.cq_run.specs.declared.refusal.Refusal.TheVariants.{Capture, Tag}
use Rattle.cq_run.specs.declared.stop.Halt.{Halt}
use Rattle.cq_run.specs.declared.stop.Halt.TheVariants.{Refused, NoMemory}
use Rattle.cq_run.specs.declared.switching.Crossed.{Crossed}
use Rattle.cq_run.specs.declared.switching.Switched.{Switched}
use Rattle.cq_run.specs.Headline.{KeepsUp}
use Rattle.cq_run.specs.Plan.{Plan, capture_out, crossed, switched}
use Rattle.cq_run.specs.Verdict.{ideally_sent}

-- these are the departures of the ideal switch, and the stamp from which their slots are counted
pub record IsSwitched (t : Tables) (captures : List (List Captured)) (s : Switched) : Type 0 where
  pub sent : ideally_sent t captures ≡ Ok s.sent.items
  pub t0 : s.t0 ≡ t0_of captures

-- the captures that were packed, one for each row, each under its name there
abbrev pub under_names : List PortRow → List Packing → List (List ℕ × List ℕ)
under_names rows places = map (λ (both : PortRow × Packing). (both.0.write, both.1.bytes.items)) (zip rows places)

-- what it sent
abbrev pub sent_by : Crossed → Switched
sent_by c = record { sent = c.run.sent; t0 = c.t0 }

-- they are the departures of the crossbar switch, which keeps up, with its transfers, its figures and what was refused
pub record IsCrossed (t : Tables) (captures : List (List Captured)) (c : Crossed) : Type 0 where
  pub switched : IsSwitched t captures (sent_by c)
  pub records : List LimitedRecord
  pub keeps_up : KeepsUp t captures records
  pub departed : c.run.sent.items ≡ departures_in_run records
  pub note : c.run.note.items ≡ transfers_of_run (slots_in records)
  pub figures : c.run.figures ≡ figures_of (ports_of t.setup) (slots_in records)
  pub refused : c.run.refused.items ≡ refused_counts t.limits (refused_in_run records)

-- the plan is what the ideal switch does with these captures
pub record IsIdeal (t : Tables) (captures : List (List Captured)) (plan : Plan) : Type 0 where
  pub sent : List Departure
  pub is_sent : ideally_sent t captures ≡ Ok sent
  pub written : plan ≡ switched t captures sent

-- the plan is what the crossbar switch does with these captures: it keeps up, and sends what the ideal switch sends
pub record IsCrossing (t : Tables) (captures : List (List Captured)) (plan : Plan) : Type 0 where
  pub sent : List Departure
  pub is_sent : ideally_sent t captures ≡ Ok sent
  pub records : List LimitedRecord
  pub keeps_up : KeepsUp t captures records
  pub departed : sent ≡ departures_in_run records
  pub written : plan ≡ crossed t captures sent records

-- the plan is what leaves the one output of a switch with this one capture: it keeps up, and sends what the ideal
-- switch sends
pub record IsPassing (t : Tables) (packets : List Captured) (to : List ℕ) (plan : Plan) : Type 0 where
  pub sent : List Departure
  pub is_sent : ideally_sent t (packets ∷ []) ≡ Ok sent
  pub records : List LimitedRecord
  pub keeps_up : KeepsUp t (packets ∷ []) records
  pub departed : sent ≡ departures_in_run records
  pub writes : plan.writes ≡ (to, capture_out t (packets ∷ []) sent 0) ∷ []
  pub text : plan.text ≡ []

-- why the program stops where a capture cannot be read: it has this fault, or memory ran out
abbrev pub halt_for : ℕ → Option PcapRefusal → Halt
halt_for input None = NoMemory
halt_for input (Some fault) = Refused (Capture input (Read fault))

-- why the program stops where a run has no result
abbrev pub halt_of : RunRefusal → Halt
halt_of (run.Tag fault) = Refused (Tag fault)
halt_of run.NoMemory = NoMemory
