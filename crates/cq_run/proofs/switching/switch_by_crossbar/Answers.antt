use Rattle.cq_run.proofs.Terms.{arith, rules, once_each_slot}
use Rattle.cq_run.proofs.Crossed.{is_crossed}
use Rattle.cq_run.proofs.switching.switch_by_crossbar.Goals as goal

pub returns-clause-crossed : goal.returns-clause-crossed
returns-clause-crossed g c = search (arith, rules, is_crossed)

pub returns-clause-reportable : goal.returns-clause-reportable
returns-clause-reportable g c =
    let kept = c.in_ok-run.ensures.run in
    rw kept.figures (once_each_slot _ _ kept.records kept.is_run)
