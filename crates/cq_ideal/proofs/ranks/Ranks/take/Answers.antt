use Rattle.cq_ideal.proofs.Terms.{rules, None, Some, arith, err_from_is_err_and}
use Rattle.cq_ideal.proofs.Admitted.{admitted_for_ports}
use Rattle.cq_ideal.proofs.Came.{from_input, in_front, in_turn_next, in_turn_last}
use Rattle.cq_ideal.proofs.ranks.Ranks.take.Goals as goal
use Rattle.cq_ideal.proofs.ranks.Ranks.take.Goals.{in-None, in-Some+in_ok-queued-in-Some}

pub inputs-preserved : goal.inputs-preserved
inputs-preserved g c =
    let next = in_turn_next c.inputs.invariant in
    elim c.match-admitted.branch [
      | in-None w ↦ rw (w.self-is, w.came-is, w.put.ensures) (search (arith, rules, next c.inputs.self None None))
      | in-Some+in_ok-queued-in-Some w ↦ rw (w.self-is, w.came-is, w.put-in-Some.ensures)
          (search (arith, rules, next w.keyed.new.self (Some w.in-Some.cell)))
    ]

pub returns-in_err-queued-in-Some-clause-fault : goal.returns-in_err-queued-in-Some-clause-fault
returns-in_err-queued-in-Some-clause-fault g c =
    let p = err_from_is_err_and c.from_residual.result c.from_residual.ensures.1 in
    rw (p.1, p.2) (search (arith, rules, in_front, from_input, c.inputs.invariant))

pub returns-clause-came : goal.returns-clause-came
returns-clause-came g c =
    let for = admitted_for_ports _ _ c.args.limiter.now.marks c.args.arrivals.now c.requires.arrivals in
    search (arith, rules, in_turn_last c.inputs.invariant _ for)
