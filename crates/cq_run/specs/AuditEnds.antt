-- Only proofs use this.
-- How an audit ends over captures, a trace and a log that were read.
use Rattle.std.specs.Prelude.{◌≡◌, ◌⊎◌, ℕ, List, Ok}
use Rattle.cq_base.specs.declared.cell.Departure.{Departure}
use Rattle.cq_pcap.specs.Captured.{Captured}
use Rattle.cq_route.specs.declared.tables.Tables.{Tables}
use Rattle.cq_simulate.specs.FabricRuns.{AlwaysHasSlack, AreStable, departures_in_run}
use Rattle.cq_run.specs.Auditing.{IsAuditYes, IsDenied}
use Rattle.cq_run.specs.Judging.{IsHaltOf}
use Rattle.cq_run.specs.Verdict.{ideally_sent}
use Rattle.cq_run.specs.declared.denial.Denial.{Denial}
use Rattle.cq_run.specs.declared.refusal.Refusal.TheVariants.{Audit}
use Rattle.cq_run.specs.declared.stop.Halt.{Halt}
use Rattle.cq_run.specs.declared.stop.Halt.TheVariants.{Refused}

-- it says yes
pub record IsAuditPassed (t : Tables) (captures : List (List Captured)) (trace log : List ℕ) : Type 0 where
  pub sent : List Departure
  pub ideally : ideally_sent t captures ≡ Ok sent
  pub meets : IsAuditYes t captures sent trace log
  -- and what the run of the log sends is what the ideal switch sends
  pub departed : sent ≡ departures_in_run meets.log_is.run.records
  -- both matchings of each slot of that run are stable ones of what the lists offer, and no slack is below 0
  pub stable : AreStable meets.log_is.run.records
  pub slack : AlwaysHasSlack meets.log_is.run.records

-- it says no, and this is why
pub record IsAuditNo (t : Tables) (captures : List (List Captured)) (trace log : List ℕ) (halt : Halt) : Type 0 where
  pub sent : List Departure
  pub ideally : ideally_sent t captures ≡ Ok sent
  pub denial : Denial
  pub denied : IsDenied t captures sent trace log denial
  pub is : halt ≡ Refused (Audit denial)

-- why it ends without a yes: the ideal run has a tag fault, memory ran out, or it says no
abbrev pub IsAuditHalted : Tables → List (List Captured) → List ℕ → List ℕ → Halt → Type 0
IsAuditHalted t captures trace log halt =
    IsHaltOf (ideally_sent t captures) halt ⊎ IsAuditNo t captures trace log halt
