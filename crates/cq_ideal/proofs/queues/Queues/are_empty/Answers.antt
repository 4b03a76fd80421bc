use Rattle.cq_ideal.proofs.Terms.{arith, rules, QueueView}
use Rattle.cq_ideal.proofs.Changed.{none_wait}
use Rattle.cq_ideal.proofs.queues.Queues.are_empty.Goals as goal

pub returns : goal.returns
returns c = none_wait (λ (q : QueueView). q.cells) c.self.inside.queues.items c.args.self.now.lists c.none_wait.result
    (search (arith, rules)) (search (arith, rules))
