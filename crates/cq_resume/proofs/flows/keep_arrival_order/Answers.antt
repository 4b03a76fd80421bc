use Rattle.cq_resume.proofs.Lanes.{flows_as_lanes}
use Rattle.cq_resume.proofs.flows.keep_arrival_order.Goals as goal

pub returns : goal.returns
returns c =
    let same = flows_as_lanes c.args.ports c.args.names.now c.requires.names c.requires.ordered in
    let answer = c.lanes_in_order.ensures in
    ((λ yes. same.0 (answer.0 yes)), (λ stand. answer.1 (same.1 stand)))
