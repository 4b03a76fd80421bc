use Rattle.cq_audit.proofs.Terms.{rules, common_steps, ◌≤◌, ◌∙◌, arith, length-append, end_of, IsEmptyFabric}
use Rattle.cq_audit.proofs.AuditExact.{moved}
use Rattle.cq_audit.proofs.Steps.{Replaying, a_slot_left, at_end, at_fault, at_next, can_replay, not_over_past, past, replaying_first}
use Rattle.cq_audit.proofs.audit.replay_run.Given as given
use Rattle.cq_audit.proofs.audit.replay_run.Goals as goal
use Rattle.cq_audit.proofs.audit.replay_run.Goals.{After-skip-slot}

pub slots-init : goal.slots-init
slots-init g c = search (rules, replaying_first)

-- the replay behind the slots that were skipped, with room for what a slot notes; and it goes on there
there : (g : given.Over) (c : After-skip-slot g) → Replaying g.R.Rank.machine c.args.schedule.now.came c.args.lines.now
    c.args.replay.now c.skip-slot.result c.slots.rest.now c.skip-slot.new.replay c.clear.new.self
    × (end_of c.args.schedule.now.came ≤ c.skip-slot.result → IsEmptyFabric c.skip-slot.new.replay.fabric.state → ⊥)
there g c = search (arith, rules, past c.slots.invariant, not_over_past c.slots.invariant, c.is_over.ensures.1)

pub slot-requires : goal.slot-requires
slot-requires g c =
    let at = there g (goal.at.slot-requires g c).After-skip-slot in
    can_replay at.0 at.1 c.requires _ (c.arrivals-arrivals.ensures ∙ c.arrive.ensures) c.clear.ensures.items

pub returns-in-Err : goal.returns-in-Err
returns-in-Err g c =
    let at = there g (goal.at.returns-in-Err g c).After-skip-slot in search (arith, rules, at_fault at.0 at.1)

pub slots-smaller : goal.slots-smaller
slots-smaller g c =
    let at = there g (goal.at.slots-smaller g c).After-skip-slot in omega (arith, a_slot_left at.0 at.1 c.requires)

pub slots-preserved : goal.slots-preserved
slots-preserved g c =
    let at = there g (goal.at.slots-preserved g c).After-skip-slot in search (arith, rules, at_next at.0 at.1)

pub overflow_add-slot : goal.overflow_add-slot
overflow_add-slot g c =
    let at = there g (goal.at.overflow_add-slot g c).After-skip-slot in
    search (arith, rules, can_replay at.0 at.1 c.requires)

pub left_over-requires : goal.left_over-requires
left_over-requires g c = grind (arith, common_steps, length-append, moved)

pub returns : goal.returns
returns g c = let over = c.is_over.ensures.0 c.slots-test.false in search (arith, rules, at_end)
