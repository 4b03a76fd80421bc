use Rattle.cq_laws.proofs.IdealOf.{hold_as_many}
use Rattle.cq_laws.proofs.LimitedSlots.{same_admission}
use Rattle.cq_laws.proofs.limits.outputs_hold_as_many.Goals as goal

pub returns : goal.returns
returns c = record { held = hold_as_many; admission = same_admission }
