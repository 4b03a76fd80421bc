use Rattle.cq_ideal.proofs.Terms.{rules, arith, drop-set-lt, drop_more, take_more_set, append_assoc, length-set}
use Rattle.cq_ideal.proofs.Counting.{raised}
use Rattle.cq_ideal.proofs.Came.{from_input}
use Rattle.cq_ideal.proofs.limiter.Limiter.judge.Goals as goal

pub inputs-preserved : goal.inputs-preserved
inputs-preserved c =
    let out = c.requires.arrivals.outputs c.inputs.input in
    let here = from_input c.args.arrivals.now c.inputs.input c.at-cell.result in
    search (arith, rules, here, out, drop-set-lt, drop_more, take_more_set, append_assoc, length-set, raised)
