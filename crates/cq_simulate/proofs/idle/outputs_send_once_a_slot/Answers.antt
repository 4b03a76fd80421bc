use Rattle.cq_simulate.proofs.FabricLaws.{once_a_slot, resumed_counts}
use Rattle.cq_simulate.proofs.idle.outputs_send_once_a_slot.Goals as goal

pub returns : goal.returns
returns c = record { run = once_a_slot; resumed = resumed_counts }
