-- Only proofs use this.
-- The steps of a slot of a replay, over the parts of its fabric: what arrives comes, the lines of a phase are gone by,
-- and the outputs send.
use Rattle.std.specs.Prelude.{◌≡◌, ℕ, ◌<◌, ◌≤◌, IfSome, List, [], length, Ok, Option, slice_index_or}
use Rattle.cq_base.specs.declared.cell.Cell.{Cell}
use Rattle.cq_base.specs.declared.cell.Queued.{Queued}
use Rattle.cq_base.specs.declared.cell.Transfer.{Transfer}
use Rattle.cq_base.specs.Room.{RoomView}
use Rattle.cq_base.specs.Limits.{most_ports}
use Rattle.cq_rank.specs.Machine.{Machine}
use Rattle.cq_ideal.specs.Admission.{admitted}
use Rattle.cq_ideal.specs.IdealSlot.{all_told, fronts, rests}
use Rattle.cq_ideal.specs.Limiter.{LimiterView}
use Rattle.cq_ideal.specs.Parts.{RanksView}
use Rattle.cq_ideal.specs.Ranking.{ranking}
use Rattle.cq_ideal.specs.Taking.{HasJudged}
use Rattle.cq_prefs.specs.FirstCells.{list_of}
use Rattle.cq_laws.specs.Phases.{came_to, list_arrived}
use Rattle.cq_fabric.specs.Queues.{CanCross, Queues, fabric_of}
use Rattle.cq_fabric.specs.Released.{HasReleased}
use Rattle.cq_audit.specs.Crossing.{AreNoted, HaveCrossed}
use Rattle.cq_audit.specs.Log.{AreInOrder}
use Rattle.cq_audit.specs.Phase.{AreParted, NoneBefore}

-- what arrives was judged, and what is admitted has its keys and stands in the lists of its inputs
pub record HaveCome (ms : List Machine) (slot : ℕ) (cells : List (Option Cell)) (ranks ranks' : RanksView)
    (q q' : Queues) (l l' : LimiterView) : Type 0 where
  pub came : List (Option Queued)
  pub judged : HasJudged cells l l'
  pub ranked : ranking ms slot 0 (admitted l'.marks cells) ranks.states
      ≡ Ok (record { came = came; ranks = ranks'.states })
  pub fixed : ranks'.fixed ≡ ranks.fixed
  pub many : length ranks'.states ≡ length ranks.states
  pub ports : length q'.inputs ≡ length q.inputs
  pub lists : (i : ℕ) → list_of q'.inputs i ≡ list_arrived (fabric_of q []) (came_to came i) (list_of q.inputs i)
  pub buffers : q'.buffers ≡ q.buffers
  pub from_inputs : q'.from_inputs ≡ q.from_inputs
  pub to_outputs : q'.to_outputs ≡ q.to_outputs

-- the lines of a phase can be gone by: no line is of an earlier one, and a transfer of each input can be noted
pub record CanGoBy (slot phase : ℕ) (lines : List Transfer) (q : Queues) (note : RoomView Transfer) : Type 0 where
  pub cells : CanCross q
  pub in_order : AreInOrder (length q.inputs) lines
  pub none_before : NoneBefore slot phase lines
  pub room : length q.inputs ≤ note.spare

-- its own lines are the transfers of a stable matching, which were made and noted, and the others are left
pub record HasGoneBy (slot phase : ℕ) (lines rest : List Transfer) (q q' : Queues) (note note' : RoomView Transfer) :
    Type 0 where
  pub own : List Transfer
  pub parted : AreParted (length q.inputs) slot phase lines own rest
  pub crossed : HaveCrossed slot phase own q q'
  pub noted : AreNoted own note note'

-- each output can send: there is a machine for each, and one that sends holds a cell
pub record CanSend (ranks : RanksView) (q : Queues) (l : LimiterView) : Type 0 where
  pub few : length (fronts q.buffers) ≤ most_ports
  pub machines : length (fronts q.buffers) ≡ length ranks.fixed
  pub states : length ranks.states ≡ length ranks.fixed
  pub counts : length (fronts q.buffers) ≡ length l.held
  pub holds : (j : ℕ) → IfSome (came_to (fronts q.buffers) j) (λ _. 0 < slice_index_or l.held j 0)

-- each has sent the first cell of its buffer, or was idle, and its machine was told
pub record HaveAllSent (ms : List Machine) (ranks ranks' : RanksView) (q q' : Queues) (l l' : LimiterView) : Type 0
  where
    pub fixed : ranks'.fixed ≡ ranks.fixed
    pub told : ranks'.states ≡ all_told ms (fronts q.buffers) ranks.states
    pub released : HasReleased (fronts q.buffers) l l'
    pub inputs : q'.inputs ≡ q.inputs
    pub buffers : q'.buffers ≡ rests q.buffers
    pub from_inputs : q'.from_inputs ≡ q.from_inputs
    pub to_outputs : q'.to_outputs ≡ q.to_outputs
