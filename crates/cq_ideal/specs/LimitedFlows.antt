-- Flows where outputs have limits: of each flow the cells of the admitted packets leave, in the order in which they
-- came.
use Rattle.std.specs.Prelude.{◌≡◌, ℕ, Bool, List, filter, Option, Ok}
use Rattle.cq_base.specs.Arriving.{Arrival, traffic_of}
use Rattle.cq_rank.specs.Machine.{Machine}
use Rattle.cq_ideal.specs.Admission.{admitted_in}
use Rattle.cq_ideal.specs.Flows.{IsRunnable, came_in_flow, left_in_flow}
use Rattle.cq_ideal.specs.IdealRun.{departures_of}
use Rattle.cq_ideal.specs.LimitedIdeal.{LimitedRan, empty_limited, limited_run}
use Rattle.cq_ideal.specs.WholePackets.{AreOfPackets, cells_at}

-- at input i the cells of these packets are admitted, and of each flow from there they leave in the order in which
-- they came
pub record LeaveInPackets (came : List Arrival) (ran : LimitedRan) (i : ℕ) : Type 0 where
  pub is_taken : ℕ → Bool
  pub admitted : cells_at i (admitted_in ran.admissions)
      ≡ filter (λ cell. is_taken cell.id.packet) (cells_at i (traffic_of came))
  pub left : (c j : ℕ) →
      left_in_flow i c j (departures_of 0 ran.gone) ≡ filter (λ cell. is_taken cell.id.packet) (came_in_flow i c j came)

-- In a run that ends without a tag fault, whatever the limits, each flow leaves packet by packet as it came, but for
-- the packets that were refused whole.
abbrev pub FlowsLeaveInPackets : Type 0
FlowsLeaveInPackets =
    (limits : List (Option ℕ)) (ms : List Machine) (ports : ℕ) (openings : List (List ℕ)) (came : List Arrival)
    (ran : LimitedRan) → IsRunnable ms ports openings came →
    limited_run limits ms 0 (traffic_of came) (empty_limited ports openings) ≡ Ok ran →
    (i : ℕ) → AreOfPackets 0 (cells_at i (traffic_of came)) → LeaveInPackets came ran i
