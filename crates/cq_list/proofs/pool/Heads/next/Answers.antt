use Rattle.cq_list.proofs.Queues.{are_linked_behind}
use Rattle.cq_list.proofs.pool.Heads.next.Goals as goal

pub head_of-requires : goal.head_of-requires
head_of-requires c = rw c.as_slice.ensures.value c.self.invariant

pub invariant_of-self : goal.invariant_of-self
invariant_of-self c =
    let head = rw c.as_slice.ensures.value at c.in_ok-queue.ensures.head in
    are_linked_behind c.self.invariant head c.behind_first.ensures
