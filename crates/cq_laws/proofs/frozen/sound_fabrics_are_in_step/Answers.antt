use Rattle.cq_laws.proofs.IdealOf.{agrees_of, only_ideal, sound_from}
use Rattle.cq_laws.proofs.frozen.sound_fabrics_are_in_step.Goals as goal

pub returns : goal.returns
returns c = record { agrees = agrees_of; sound = sound_from; only = only_ideal }
