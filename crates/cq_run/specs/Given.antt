-- Only proofs use this.
-- What a configuration gives, once it and the captures that it names are read.
use Rattle.std.specs.Prelude.{◌≡◌, ℕ, List, length, IfSome, Result}
use Rattle.cq_pcap.specs.Captured.{Captured}
use Rattle.cq_route.specs.Tables.{AreTables, ports_of}
use Rattle.cq_route.specs.declared.tables.Tables.{Tables}
use Rattle.cq_space.specs.Space.{Closed, Contents, Space}
use Rattle.cq_run.specs.declared.refusal.Refusal.{Refusal}
use Rattle.cq_run.specs.Aim.{Aim}
use Rattle.cq_run.specs.Headline.{AreRead}
use Rattle.cq_run.specs.Reader.{Reader}
use Rattle.cq_run.specs.Verdict.{◌>>=◌, captures_in, tables_in}

-- tables, and a capture for each port
pub record Given : Type 0 where
  pub tables : Tables
  pub captures : List (List Captured)

-- this is read of what the file space told: tables that are in range, and a capture for each of their ports. No fault
-- was counted, and nothing was written
pub record IsGiven {S : Type 0} (space : S → Space) (keeps : S → S → Type 0) (config : List ℕ) (old new : S)
    (given : Given) : Type 0 where
  pub read : (r : Reader) → IfSome (space old).told (λ m. AreRead r config m given.tables given.captures)
  pub in_range : AreTables given.tables
  pub each : length given.captures ≡ ports_of given.tables.setup
  pub kept : keeps old new
  pub closed : (space new).mode ≡ Closed
  pub told : (space new).told ≡ (space old).told
  pub uncounted : (space new).faults ≡ (space old).faults

-- judging of a configuration, of its captures, and then of this
abbrev pub judged_of_given : Reader → List ℕ → (Tables → List (List Captured) → Contents → Result Aim Refusal) →
    Contents → Result Aim Refusal
judged_of_given r config rest m = do
  tables ← tables_in config m
  captures ← captures_in r tables m
  rest tables captures m
