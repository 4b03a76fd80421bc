-- Slots in which nothing waits and nothing comes.
use Rattle.std.specs.Prelude.{◌≡◌, ℕ, ◌+◌, ◌<◌, zero, suc, List, [], ◌∷◌, fold, length, None, slice_index_or, replicate}
use Rattle.cq_base.specs.declared.figures.Figures.{Figures}
use Rattle.cq_base.specs.Limits.{most_ports}
use Rattle.cq_rank.specs.Machine.{Machine, KeepsLaws, machine_at}
use Rattle.cq_ideal.specs.IdealRun.{departures_of}
unfoldable pub use Rattle.cq_ideal.specs.IdealSlot.{idled}
use Rattle.cq_laws.specs.Fabric.{empty_fabric}
use Rattle.cq_laws.specs.FabricSlot.{SlotRecord}
use Rattle.cq_laws.specs.Measures.{figures_after}
use Rattle.cq_laws.specs.Records.{gone_in, transfers_of_run}

-- what is recorded of such a slot
unfoldable pub quiet_slot : List Machine → ℕ → ℕ → List (List ℕ) → SlotRecord
quiet_slot ms slot ports ranks =
    record {
      slot = slot;
      came = replicate most_ports None;
      arrived = empty_fabric ports ranks;
      first = replicate ports None;
      filled = empty_fabric ports ranks;
      gone = replicate ports None;
      sent = empty_fabric ports (idled ms ports ranks);
      second = replicate ports None;
    }

-- the records of so many such slots, from a slot on
abbrev pub quiet_slots : List Machine → ℕ → ℕ → ℕ → List (List ℕ) → List SlotRecord
quiet_slots ms zero slot ports ranks = []
quiet_slots ms (suc count) slot ports ranks =
    quiet_slot ms slot ports ranks ∷ quiet_slots ms count (slot + 1) ports (idled ms ports ranks)

-- and the states of the rank machines after them
abbrev pub idled_for : List Machine → ℕ → ℕ → List (List ℕ) → List (List ℕ)
idled_for ms zero ports ranks = ranks
idled_for ms (suc count) ports ranks = idled_for ms count ports (idled ms ports ranks)

-- nothing is sent in these slots, from this one on, nothing transferred, and no figure changes
pub record AddNothing (slot : ℕ) (rs : List SlotRecord) : Type 0 where
  pub departures : departures_of slot (gone_in rs) ≡ []
  pub transfers : transfers_of_run rs ≡ []
  pub figures : (x : Figures) → fold figures_after x rs ≡ x

-- each rank state is one of a machine that keeps the laws
pub record KeepLaws (ms : List Machine) (ranks : List (List ℕ)) : Type 0 where
  pub laws : (j : ℕ) → j < length ranks → KeepsLaws (machine_at ms j)
  pub sized : (j : ℕ) → j < length ranks → length (slice_index_or ranks j []) ≡ (machine_at ms j).size
