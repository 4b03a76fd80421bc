use Rattle.cq_ideal.proofs.Terms.{rules, arith}
use Rattle.cq_ideal.proofs.Came.{putting_next}
use Rattle.cq_ideal.proofs.queues.Queues.arrive.Goals as goal

pub inputs-preserved : goal.inputs-preserved
inputs-preserved c =
    let ports = c.len-ports.ensures.len in
    let inside = c.inputs-test.true in
    search (arith, rules, putting_next c.requires.ports c.inputs.invariant c.requires.few)
