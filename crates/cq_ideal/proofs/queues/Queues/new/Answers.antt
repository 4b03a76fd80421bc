use Rattle.cq_ideal.proofs.Terms.{[], All-push, QueueView, arith, common_steps, get_or-map, length-map, rules}
use Rattle.cq_ideal.proofs.Changed.{map_next, map_same}
use Rattle.cq_ideal.proofs.queues.Queues.new.Goals as goal

pub loop-room-preserved : goal.loop-room-preserved
loop-room-preserved c = search (arith, rules, map_same, map_next, All-push)

-- empty lists are within any room
pub invariant_of-result : goal.invariant_of-result
invariant_of-result c k d inside =
    let none = [] in
    let at = get_or-map (λ (q : QueueView). q.cells) c.loop-room.queues.items k d none in
    grind (arith, common_steps, length-map, at)
