use Rattle.cq_list.proofs.Terms.{get}
use Rattle.cq_list.proofs.Walk.{reached_first}
use Rattle.cq_list.proofs.pool.next_of.Goals as goal

pub returns-then-ahead-eq0 : goal.returns-then-ahead-eq0
returns-then-ahead-eq0 c = rw c.if-ahead-eq0.true (reached_first (get c.args.nodes.now) c.args.queue)
