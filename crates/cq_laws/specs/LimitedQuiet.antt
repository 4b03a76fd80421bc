-- Slots of a fabric with limits in which nothing waits and nothing comes. The marks stay: one that is up waits for
-- the rest of its packet.
use Rattle.std.specs.Prelude.{ℕ, Bool, List, replicate}
use Rattle.cq_base.specs.Arrivals.{no_arrivals}
use Rattle.cq_rank.specs.Machine.{Machine}
use Rattle.cq_ideal.specs.Admission.{nothing_refused}
use Rattle.cq_laws.specs.LimitedFabric.{LimitedRecord, passed}
use Rattle.cq_laws.specs.Quiet.{quiet_slot, quiet_slots}

-- what is recorded of such a slot
abbrev pub quiet_limited_slot : List Machine → ℕ → ℕ → List (List ℕ) → List Bool → LimitedRecord
quiet_limited_slot ms slot ports ranks marks =
    record { admission = nothing_refused marks no_arrivals; of_slot = quiet_slot ms slot ports ranks }

-- the records of so many such slots, from a slot on
abbrev pub quiet_limited_slots : List Machine → ℕ → ℕ → ℕ → List (List ℕ) → List Bool → List LimitedRecord
quiet_limited_slots ms count slot ports ranks marks =
    passed marks (replicate count no_arrivals) (quiet_slots ms count slot ports ranks)
