-- Only proofs use this.
-- A replay over all cells that arrive: what it begins with, and what its end says of the lines.
use Rattle.std.specs.Prelude.{◌≡◌, ℕ, ◌+◌, ◌*◌, ◌<◌, ◌≤◌, ◌⊎◌, List, [], ◌∷◌, length, map, Option, Result, Ok, Err, IsOk, slice_index}
use Rattle.std.specs.List.{AllByRecursion}
use Rattle.cq_base.specs.Arriving.{Arrival, end_of}
use Rattle.cq_base.specs.Room.{RoomView}
use Rattle.cq_base.specs.declared.cell.Transfer.{Transfer}
use Rattle.cq_base.specs.declared.setup.Setup.{Setup}
use Rattle.cq_cells.specs.NextArrival.{ArrivesIn}
use Rattle.cq_cells.specs.Traffic.{IsShort, IsTraffic, is_from, is_to, number_of}
use Rattle.cq_rank.specs.Machine.{Machine}
use Rattle.cq_rank.specs.Switch.{class_count}
use Rattle.cq_scfq.specs.Discipline.{machine_from}
use Rattle.cq_scfq.specs.Disciplines.{machines_of}
use Rattle.cq_ideal.specs.LimitedEnding.{whole_limited_run}
use Rattle.cq_ideal.specs.LimitedIdeal.{empty_limited}
use Rattle.cq_laws.specs.LimitedFabric.{empty_limited_fabric}
use Rattle.cq_traffic.specs.Rooms.{rooms_of}
use Rattle.cq_traffic.specs.Stretch.{NoneCome}
use Rattle.cq_audit.specs.Audit.{IsNoOf, opening_fabric}
use Rattle.cq_audit.specs.Log.{AreInOrder}
use Rattle.cq_audit.specs.Replay.{IsInStep, ReplayView, ports_in}
use Rattle.cq_audit.specs.StableRun.{IsOfStableRun}
use Rattle.cq_audit.specs.declared.refusal.AuditRefusal.{AuditRefusal}

-- no line is of an earlier slot than the first
abbrev pub FirstIsLeast : List Transfer → Type 0
FirstIsLeast [] = Unit {0}
FirstIsLeast (t ∷ lines) = AllByRecursion (λ u. t.slot ≤ u.slot) lines

-- no cell arrives from this slot on up to the other, and there is no line of these slots; and if the other is later,
-- there are cells still to come
pub record IsStill (came : List Arrival) (lines : List Transfer) (slot next : ℕ) : Type 0 where
  pub late : slot ≤ next
  pub none : NoneCome came slot next
  pub no_line : AllByRecursion (λ t. next ≤ t.slot) lines
  pub more : slot < next → next < end_of came

-- there is a line of this slot
abbrev pub HasLineOf : ℕ → List Transfer → Type 0
HasLineOf slot [] = ⊥
HasLineOf slot (t ∷ lines) = (t.slot ≡ slot) ⊎ HasLineOf slot lines

-- all is still up to the other slot; and where cells are still to come, one arrives in that slot or a line is of it
pub record IsStillUntil (came : List Arrival) (lines : List Transfer) (slot next : ℕ) : Type 0 where
  pub still : IsStill came lines slot next
  pub ends : slot < end_of came → ArrivesIn next came ⊎ HasLineOf next lines

-- the replay of a switch of this setup with these limits, before its first slot, with room for all cells that arrive
pub record IsOpened (setup : Setup) (limits : List (Option ℕ)) (came : List Arrival) (v : ReplayView) : Type 0 where
  pub ports : ports_in v ≡ length setup.kinds
  pub machines : map machine_from v.fixed ≡ machines_of setup
  pub classes : class_count (machines_of setup) ≡ length setup.classes
  pub limits_are : v.limits ≡ limits
  pub fabric : v.fabric ≡ opening_fabric setup
  pub from_inputs : v.from_inputs ≡ rooms_of is_from came (length setup.kinds)
  pub to_outputs : v.to_outputs ≡ rooms_of is_to came (length setup.kinds)
  pub in_step : IsInStep (map machine_from v.fixed) 0 v

-- The fabric has had no slot and holds no cell, there is room for all cells that arrive, and for what one slot notes,
-- the lines are in order, and the ideal switch has no tag fault.
pub record IsReady (ms : List Machine) (came : List Arrival) (lines : List Transfer) (v : ReplayView)
    (note : RoomView Transfer) : Type 0 where
  pub in_step : IsInStep ms 0 v
  pub fabric : v.fabric ≡ empty_limited_fabric (ports_in v) v.fabric.state.ranks
  pub traffic : IsTraffic (ports_in v) (class_count ms) came
  pub short : IsShort came
  pub from_inputs : (i : ℕ) → i < ports_in v → slice_index v.from_inputs i ≡ number_of (is_from i) came
  pub to_outputs : (j : ℕ) → j < ports_in v → slice_index v.to_outputs j ≡ number_of (is_to j) came
  pub in_order : AreInOrder (ports_in v) lines
  pub ranked : IsOk (whole_limited_run v.limits ms came (empty_limited (ports_in v) v.fabric.state.ranks))
  pub note_room : note.spare + length note.items ≡ 2 * ports_in v

-- the lines are those of a stable run, or this is the first thing wrong with them
abbrev pub RunEnds : List Machine → List Arrival → List Transfer → ReplayView → Result (Unit {0}) AuditRefusal → Type 0
RunEnds ms came lines old (Ok done) = IsOfStableRun old.limits ms came old.fabric lines
RunEnds ms came lines old (Err refusal) = IsNoOf old.limits ms came old.fabric lines refusal
