use Rattle.cq_list.proofs.pool.Pool.first.Goals as goal

pub head_of-requires : goal.head_of-requires
head_of-requires c = rw c.as_slice.ensures.value c.self.invariant.linked
