-- Only proofs use this.
-- A fabric that goes by the lines of a log: what is known of it, and what the lines of a slot come to.
use Rattle.std.specs.Prelude.{◌≡◌, ℕ, ◌+◌, ◌-◌, ◌*◌, ◌^◌, ◌<◌, ◌≤◌, ◌++◌, ◌⊎◌, List, length, Option, Some, IsOk, replicate, slice_index}
use Rattle.cq_base.specs.declared.cell.Cell.{Cell}
use Rattle.cq_base.specs.declared.cell.Queued.{Queued}
use Rattle.cq_base.specs.declared.cell.Transfer.{Transfer}
use Rattle.cq_base.specs.Arrivals.{arrival_at, no_arrivals}
use Rattle.cq_base.specs.Room.{RoomView}
use Rattle.cq_rank.specs.Machine.{Machine}
use Rattle.cq_rank.specs.Switch.{AreForOneSwitch, class_count}
use Rattle.cq_ideal.specs.Admission.{Marked, marked}
use Rattle.cq_ideal.specs.Ideal.{count_for}
use Rattle.cq_ideal.specs.IdealSlot.{IdealState}
use Rattle.cq_ideal.specs.Limiter.{LimiterView}
use Rattle.cq_ideal.specs.Parts.{RanksView}
use Rattle.cq_ideal.specs.Ranking.{AreForPorts, ranking}
use Rattle.cq_prefs.specs.Pairing.{IsStable}
use Rattle.cq_laws.specs.Agreement.{Agrees}
use Rattle.cq_laws.specs.Fabric.{Fabric, input, buffer}
use Rattle.cq_laws.specs.Holding.{fabric_held, waiting_for}
use Rattle.cq_laws.specs.LimitedFabric.{LimitedFabricRun, LimitedFabricSlot, LimitedRecord, fabric_admission}
use Rattle.cq_laws.specs.LimitedQuiet.{quiet_limited_slots}
use Rattle.cq_laws.specs.Phases.{Arrives}
use Rattle.cq_laws.specs.Records.{transfers_in}
use Rattle.cq_fabric.specs.Queues.{Queues, fabric_of}
use Rattle.cq_audit.specs.Audit.{phase_refusal}
use Rattle.cq_audit.specs.Log.{AreInOrder}
use Rattle.cq_audit.specs.Phase.{AllBehind, IsPhaseFault, NoneBefore, in_phase}
use Rattle.cq_audit.specs.StableRun.{IsHalfPast}
use Rattle.cq_audit.specs.declared.phase.PhaseFault.{PhaseFault}
use Rattle.cq_audit.specs.declared.refusal.AuditRefusal.{AuditRefusal}
use Rattle.cq_audit.specs.declared.replay.SlotFault.{SlotFault}

-- the fabric, with what it takes to go on
pub record ReplayView : Type 0 where
  -- per output the numbers that give its rank machine
  pub fixed : List (List ℕ)
  -- per output its limit, if it has one
  pub limits : List (Option ℕ)
  -- the lists, the buffers, the states of the rank machines, and per input its mark
  pub fabric : Marked Fabric
  -- per output how many cells it holds, as it is counted
  pub held : List ℕ
  -- per input how many cells its list can hold
  pub from_inputs : List ℕ
  -- per output how many cells its buffer can hold
  pub to_outputs : List ℕ

-- what is seen of these parts
abbrev pub shown : RanksView → Queues → LimiterView → ReplayView
shown ranks q l =
    record {
      fixed = ranks.fixed;
      limits = l.limits;
      fabric = marked l.marks (fabric_of q ranks.states);
      held = l.held;
      from_inputs = q.from_inputs;
      to_outputs = q.to_outputs;
    }

-- how many inputs and outputs there are
abbrev pub ports_in : ReplayView → ℕ
ports_in v = length v.fixed

-- it has the machines, the limits and the rooms that it had
pub record IsMadeAs (old new : ReplayView) : Type 0 where
  pub fixed : new.fixed ≡ old.fixed
  pub limits : new.limits ≡ old.limits
  pub from_inputs : new.from_inputs ≡ old.from_inputs
  pub to_outputs : new.to_outputs ≡ old.to_outputs

-- Before this slot it is in step with an ideal switch: there is a state of one with which it agrees. And it counts
-- right what its outputs hold.
pub record IsInStep (ms : List Machine) (next : ℕ) (v : ReplayView) : Type 0 where
  pub machines : AreForOneSwitch ms
  pub ports : length v.fabric.state.inputs ≡ length ms
  pub ranks : length v.fabric.state.ranks ≡ length ms
  pub limits : length v.limits ≡ length ms
  pub held : v.held ≡ fabric_held v.fabric.state
  pub ideal : IdealState
  pub agrees : Agrees next v.fabric.state ideal

-- the list of each input at which a cell arrives has room for it
abbrev pub HasListRoom : List (Option Cell) → ReplayView → Type 0
HasListRoom cells v = (i : ℕ) (cell : Cell) → arrival_at cells i ≡ Some cell →
    0 < slice_index v.from_inputs i - length (input v.fabric.state i)

-- each buffer has room for all cells for its output that wait at the inputs or arrive
abbrev pub HasBufferRoom : List (Option Cell) → ReplayView → Type 0
HasBufferRoom cells v = (j : ℕ) → j < ports_in v →
    waiting_for j v.fabric.state.inputs + count_for j cells ≤
    slice_index v.to_outputs j - length (buffer v.fabric.state j)

-- ## A slot

-- what arrives in this slot can come: the replay is in step, the ranks of what is admitted fit, and lists and buffers
-- have room
pub record CanCome (ms : List Machine) (slot : ℕ) (cells : List (Option Cell)) (now : ReplayView) : Type 0 where
  pub in_step : IsInStep ms slot now
  pub arrivals : AreForPorts (ports_in now) (class_count ms) cells
  pub ranked : IsOk
      (ranking ms slot 0 (fabric_admission now.limits cells now.fabric).cells now.fabric.state.ranks)
  pub list_room : HasListRoom cells now
  pub buffer_room : HasBufferRoom cells now

-- The replay can have this slot: what arrives can come, the lines are in order and none is earlier, and a transfer of
-- each input can be noted in both phases.
pub record CanReplay (ms : List Machine) (slot : ℕ) (cells : List (Option Cell)) (lines : List Transfer)
    (now : ReplayView) (note : RoomView Transfer) : Type 0 where
  pub come : CanCome ms slot cells now
  -- another slot can follow it
  pub early : slot < 2 ^ 64 - 1
  pub in_order : AreInOrder (ports_in now) lines
  pub none_before : NoneBefore slot 1 lines
  pub note_room : 2 * ports_in now ≤ note.spare

-- It was one slot of the fabric, with stable matchings, whose transfers the lines tell. The lines behind it are left.
-- Then it is in step again.
pub record SlotReplayed (ms : List Machine) (slot : ℕ) (cells : List (Option Cell)) (lines rest : List Transfer)
    (old new : ReplayView) (note note' : RoomView Transfer) : Type 0 where
  pub of_slot : LimitedRecord
  pub is_slot : LimitedFabricSlot IsStable old.limits ms slot cells old.fabric of_slot new.fabric
  pub moved : lines ≡ transfers_in of_slot.of_slot ++ rest
  pub in_order : AreInOrder (ports_in old) rest
  pub behind : AllBehind slot 2 rest
  pub in_step : IsInStep ms (slot + 1) new
  pub made : IsMadeAs old new
  pub noted : note'.items ≡ note.items ++ transfers_in of_slot.of_slot
  pub note_room : note'.spare + length (transfers_in of_slot.of_slot) ≡ note.spare

-- the admitted cells have arrived, and the lines of the first phase have this fault
pub record IsFirstFault (limits : List (Option ℕ)) (ms : List Machine) (slot : ℕ) (cells : List (Option Cell))
    (lines : List Transfer) (old : Marked Fabric) (fault : PhaseFault) : Type 0 where
  pub ranked : List (Option Queued)
  pub arrived : Fabric
  pub arrive : Arrives ms slot (fabric_admission limits cells old).cells ranked old.state arrived
  pub wrong : IsPhaseFault arrived.inputs (in_phase slot 1 lines) fault

-- the lines of the first phase are the transfers of a stable matching, the outputs have sent, and the lines of the
-- second phase have this fault
pub record IsSecondFault (limits : List (Option ℕ)) (ms : List Machine) (slot : ℕ) (cells : List (Option Cell))
    (lines : List Transfer) (old : Marked Fabric) (fault : PhaseFault) : Type 0 where
  pub ranked : List (Option Queued)
  pub arrived : Fabric
  pub arrive : Arrives ms slot (fabric_admission limits cells old).cells ranked old.state arrived
  pub sent : Fabric
  pub half : IsHalfPast ms slot (in_phase slot 1 lines) arrived sent
  pub wrong : IsPhaseFault sent.inputs (in_phase slot 2 lines) fault

-- the fault of a slot: that of its first phase, or of its second where the first has none
abbrev pub IsSlotFault : List Machine → ℕ → List (Option Cell) → List Transfer → ReplayView → SlotFault → Type 0
IsSlotFault ms slot cells lines old f =
    ((f.phase ≡ 1) × IsFirstFault old.limits ms slot cells lines old.fabric f.fault) ⊎
    ((f.phase ≡ 2) × IsSecondFault old.limits ms slot cells lines old.fabric f.fault)

-- this fault, as a refusal of the log
abbrev pub refusal_of : ℕ → SlotFault → AuditRefusal
refusal_of slot f = phase_refusal slot f.phase f.fault

-- ## Slots in which nothing happens

-- the slots from this one on up to the other, without arrivals and without lines, are behind the fabric
pub record HasRested (ms : List Machine) (slot to : ℕ) (old new : ReplayView) : Type 0 where
  pub slots : LimitedFabricRun IsStable old.limits ms slot (replicate (to - slot) no_arrivals) old.fabric
      (quiet_limited_slots ms (to - slot) slot (ports_in old) old.fabric.state.ranks old.fabric.marks) new.fabric
  pub in_step : IsInStep ms to new
  pub made : IsMadeAs old new
