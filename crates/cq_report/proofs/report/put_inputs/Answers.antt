use Rattle.cq_report.proofs.OneMore.{numbered_more}
use Rattle.cq_report.proofs.report.put_inputs.Goals as goal

pub inputs-preserved : goal.inputs-preserved
inputs-preserved c = numbered_more _ _ _ _ _ _ _ c.inputs-test.true c.inputs.invariant c.in_ok-put_input.ensures
