-- Slots in which nothing waits and nothing comes. The first of them tells each machine that its output was idle, and
-- the others change nothing. After them the fabric is as empty as before, so it is in step with an ideal switch that
-- is empty too.
use Rattle.cq_fabric.proofs.Terms.{common_steps, ◌≡◌, ℕ, zero, suc, ◌<◌, Bool, List, Option, length, replicate, refl, arith, rules, no_arrivals, Machine, marked, IdealState, IsInputBest, Agrees, Fabric, IsEmptyFabric, empty_fabric, LimitedFabricRun, LimiterView, fabric_held, HoldsFabric, Queues, fabric_of, empty_ideal, quiet_limited_slots, none_come, run_with, empty_is, quiet_run, empty_agree_at}
use Rattle.cq_laws.specs.Quiet.{idled, idled_for}

-- ## The machines

module _ (ms : List Machine) (ports : ℕ) where
  stays_idle : (count : ℕ) (ranks : List (List ℕ)) → idled ms ports ranks ≡ ranks →
      idled_for ms count ports ranks ≡ ranks
  stays_idle zero ranks same = refl
  stays_idle (suc count) ranks same = grind (arith, common_steps, stays_idle count ranks same)

  idle_once : (count : ℕ) (ranks rested : List (List ℕ)) → 0 < count → rested ≡ idled ms ports ranks →
      idled ms ports rested ≡ rested → idled_for ms count ports ranks ≡ rested
  idle_once count ranks rested some is again = grind (arith, common_steps, stays_idle)

-- ## The fabric

-- the fabric with other states of its machines
abbrev pub with_ranks : Fabric → List (List ℕ) → Fabric
with_ranks f ranks = record { inputs = f.inputs; buffers = f.buffers; ranks = ranks }

-- an empty fabric agrees with an empty ideal switch, whatever the slot
pub rested_agrees : (slot later : ℕ) (f : Fabric) (ideal : IdealState) (rested : List (List ℕ)) → IsEmptyFabric f →
    Agrees slot f ideal → Agrees later (with_ranks f rested) (empty_ideal (length f.inputs) rested)
rested_agrees slot later f ideal rested empty had = grind (arith, common_steps, empty_is, empty_agree_at)

-- what the outputs hold does not depend on the states of the rank machines
pub still_held : (q : Queues) (ranks rested : List (List ℕ)) (l : LimiterView) → HoldsFabric (fabric_of q ranks) l →
    HoldsFabric (fabric_of q rested) l
unfolding fabric_held
still_held q ranks rested l holds = record { ports = holds.ports; held = holds.held }

-- with limits the marks stay, and nothing is refused
pub rested_limited_run : (limits : List (Option ℕ)) (marks : List Bool) (ms : List Machine) (ports count slot : ℕ)
    (f : Fabric) (rested : List (List ℕ)) → IsEmptyFabric f → length f.buffers ≡ length f.inputs →
    length f.inputs ≡ ports → 0 < count →
    rested ≡ idled ms ports f.ranks → idled ms ports rested ≡ rested →
    LimitedFabricRun IsInputBest limits ms slot (replicate count no_arrivals) (marked marks f)
    (quiet_limited_slots ms count slot ports f.ranks marks) (marked marks (with_ranks f rested))
rested_limited_run limits marks ms ports count slot f rested empty square long some is again =
    let opening : f ≡ empty_fabric ports f.ranks = search (arith, rules, empty_is f empty square) in
    let once = idle_once ms ports count f.ranks rested some is again in
    run_with IsInputBest limits ms marks slot (replicate count no_arrivals) _ _ _
    (none_come IsInputBest limits ms marks count) (rw (opening, ← once) (quiet_run ms count slot ports f.ranks))
