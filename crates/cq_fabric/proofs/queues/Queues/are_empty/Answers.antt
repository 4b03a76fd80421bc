-- Whether no cell waits in any of some lists.
use Rattle.cq_fabric.proofs.Terms.{Waiting, Buffered, arith, rules, none_wait}
use Rattle.cq_fabric.proofs.queues.Queues.are_empty.Goals as goal

pub returns-then-none_wait : goal.returns-then-none_wait
returns-then-none_wait c =
    let lists = none_wait (λ (w : Waiting). w.cells) c.self.inside.lists.items c.args.self.now.inputs
    c.none_wait.result (search (arith, rules)) (search (arith, rules)) in
    let buffers = none_wait (λ (b : Buffered). b.cells) c.self.inside.buffers.items c.args.self.now.buffers
    c.none_crossed.result (search (arith, rules)) (search (arith, rules)) in
    record { lists = λ t. lists.0 c.if-none_wait.true; buffers = buffers.0; empty = λ none. buffers.1 }

pub returns-else-none_wait-clause-empty : goal.returns-else-none_wait-clause-empty
returns-else-none_wait-clause-empty c lists buffers =
    (none_wait (λ (w : Waiting). w.cells) c.self.inside.lists.items c.args.self.now.inputs c.none_wait.result
    (search (arith, rules)) (search (arith, rules))).1 lists
