-- Only proofs use this.
-- That what stands before in a lane goes on from one to the next. It stands here since impls cite it.
use Rattle.std.proofs.Common.{arith}
use Rattle.std.proofs.lemmas.Grind.{common_steps}
use Rattle.cq_base.proofs.Keys.{key_laws}
use Rattle.cq_base.specs.declared.cell.Queued.{Queued}
use Rattle.cq_resume.specs.Finding.{IsAheadInFlow, IsAheadInList}
use Rattle.cq_resume.specs.declared.found.Name.{Name}

-- in lists
pub list_goes_on : (a b c : Queued) → IsAheadInList a b → IsAheadInList b c → IsAheadInList a c
list_goes_on a b c first second = grind (arith, common_steps, key_laws.on)

-- and in flows
pub flow_goes_on : (a b c : Name) → IsAheadInFlow a b → IsAheadInFlow b c → IsAheadInFlow a c
flow_goes_on a b c first second = grind (arith, common_steps, key_laws.on)
