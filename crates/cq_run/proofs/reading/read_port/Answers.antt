use Rattle.cq_run.proofs.Terms.{arith, common_steps}
use Rattle.cq_run.proofs.reading.read_port.Goals as goal

pub returns-in_ok-name-in-Some-clause-judges : goal.returns-in_ok-name-in-Some-clause-judges
returns-in_ok-name-in-Some-clause-judges g c = λ r.
    grind (arith, common_steps, c.read_input.ensures.judges r)
