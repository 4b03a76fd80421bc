-- A phase that was settled, and how many workers are used for it.
use Rattle.std.specs.Prelude.{ℕ, ◌≡◌, ◌≤◌, ◌*◌, min, length}
use Rattle.cq_prefs.specs.Orders.{Orders, inputs_with_offers, ports}
use Rattle.cq_prefs.specs.Pairing.{IsInputBest, Partners, proposals}
use Rattle.cq_prefs.specs.declared.outcome.Phase.{Phase}
use Rattle.cq_crew.specs.declared.settled.Settled.{Settled}
use Rattle.cq_crew.specs.declared.settled.Settled.TheVariants.{Shared, Alone}

-- the phase, whoever settled it
abbrev pub phase_of : Settled → Phase
phase_of (Shared phase) = phase
phase_of (Alone phase) = phase

-- it was settled on a ledger
abbrev pub IsShared : Settled → Type 0
IsShared (Shared phase) = Unit {0}
IsShared (Alone phase) = ⊥

-- the matching that is best for the inputs, after its number of proposals: never more than the number of ports squared
pub record IsBestAfter (o : Orders) (made : ℕ) (m : Partners) : Type 0 where
  pub best : IsInputBest o m
  pub count : made ≡ proposals o m
  pub few : made ≤ ports o * ports o

-- the same of a phase
abbrev pub IsBestPhase : Orders → Phase → Type 0
IsBestPhase o phase = IsBestAfter o phase.proposals phase.matching

-- how many workers are used: as many as are asked for, and no more than there are inputs with an offer
abbrev pub workers_used : Orders → ℕ → ℕ
workers_used o workers = min workers (length (inputs_with_offers o (ports o)))
