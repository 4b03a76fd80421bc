use Rattle.cq_list.proofs.Terms.{rules, ◌<◌, arith, get, cells_in_queues}
use Rattle.cq_list.proofs.Queues.{IsRead, is_read}
use Rattle.cq_list.proofs.Walk.{node_there, cell_shown, reached_first}
use Rattle.cq_list.proofs.pool.head_of.Goals as goal
use Rattle.cq_list.proofs.pool.head_of.Goals.{Else-queue-eq0}

-- what is known of the queue, where it has a cell
record Read (c : Else-queue-eq0) : Type 0 where
  read : IsRead (get c.args.nodes.now) c.args.queues.now (cells_in_queues (get c.args.nodes.now) c.args.queues.now)
      c.args.output c.in_ok-queue.field-0.now
  some : 0 < c.in_ok-queue.field-0.now.len

read_queue : (c : Else-queue-eq0) → Read c
read_queue c = search (arith, rules, is_read)

pub index-requires : goal.index-requires
index-requires c = search (arith, rules, read_queue, node_there, reached_first)

pub returns : goal.returns
returns c = search (arith, rules, read_queue, cell_shown, reached_first)
