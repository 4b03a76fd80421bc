use Rattle.cq_report.proofs.OneMore.{numbered_more}
use Rattle.cq_report.proofs.report.put_outputs.Goals as goal

pub outputs-preserved : goal.outputs-preserved
outputs-preserved c = numbered_more _ _ _ _ _ _ _ c.outputs-test.true c.outputs.invariant c.in_ok-put_output.ensures
