use Rattle.cq_list.proofs.Queues.{fingers_read, read_of}
use Rattle.cq_list.proofs.pool.Pool.ahead_of_key.Goals as goal

pub count_ahead-requires-clause-fingers : goal.count_ahead-requires-clause-fingers
count_ahead-requires-clause-fingers c =
    let read = read_of c.self.invariant c.self.view_is c.requires c.index-2.ensures in
    rw c.as_slice-fingers.ensures (fingers_read c.self.invariant read.inside c.index-2.ensures c.index.ensures)
